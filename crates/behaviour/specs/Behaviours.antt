-- Behaviours that repeat, and the endless walks of a graph that spell one. Assumes nothing.
use Rattle.std.specs.Prelude.{◌≡◌, ℕ, zero, suc, ◌+◌, ◌<◌, ◌≤◌, true, cond, nat_lt}
use Rattle.graph.specs.Meaning.{Meaning}

-- some letters, and then some letters again and again: the letter at each place
pub record Behaviour : Type 0 where
  pub before : ℕ
  pub again : ℕ
  pub letter : ℕ → ℕ

-- places are counted from 0
abbrev pub places : Behaviour → ℕ
places w = w.before + w.again

-- after the last place comes the first of those that repeat
abbrev pub next : Behaviour → ℕ → ℕ
next w i = cond (nat_lt (suc i) (places w)) (suc i) w.before

-- the place after so many steps
abbrev pub place : Behaviour → ℕ → ℕ
place w zero = 0
place w (suc t) = next w (place w t)

-- something repeats, and every letter is one of so many
pub record Proper (letters : ℕ) (w : Behaviour) : Type 0 where
  pub repeats : 1 ≤ w.again
  pub known : (i : ℕ) → i < places w → w.letter i < letters

-- an endless walk from the start that spells the behaviour and meets accepting states again and again
pub record Makes {S : Type 0} (m : Meaning S) (w : Behaviour) : Type 0 where
  -- the state after so many steps
  pub at : ℕ → S
  pub starts : at 0 ≡ m.start
  pub steps : (t : ℕ) → m.step (w.letter (place w t)) (at t) (at (suc t))
  pub accepts : (t : ℕ) → (d : ℕ) × (m.accepts (at (t + d)) ≡ true)

abbrev pub MakesSome : {S : Type 0} → Meaning S → Type 0
MakesSome m = (w : Behaviour) × Proper m.letters w × Makes m w
