-- The graph of a chain into an accepting loop, with a state above the chain. Assumes nothing.
use Rattle.std.specs.Prelude.{◌≡◌, ℕ, ◌-◌, Bool, true, cond, ◌&&◌, ◌||◌, [], ◌∷◌, Some, None, ◌==◌, nat_le, nat_lt}
use Rattle.graph.specs.Meaning.{Meaning}

-- whether a has a step under the letter
abbrev pub moves : ℕ → ℕ → Bool
moves x a = (x == 0 && a == 0) || (x == 1 && (nat_le 1 a && nat_le a 3))

abbrev pub under : ℕ → ℕ → Bool
under a b = a == b || (b == 4 && (nat_le 1 a && nat_le a 3))

-- whether a steps under the letter to a state below b
abbrev pub leads : ℕ → ℕ → ℕ → Bool
leads x b a = moves x a && under (a - 1) b

abbrev pub chain_means : Bool → Meaning ℕ
chain_means stuck =
    record {
      letters = 2;
      states = 0 ∷ 1 ∷ 2 ∷ 3 ∷ 4 ∷ [];
      start = cond stuck 4 3;
      accepts = λ a. (a == 0);
      below = under;
      step = λ x a b. (moves x a ≡ true) × (a - 1 ≡ b);
      tops = 3;
      top = λ i. cond (i == 0) 1 (cond (i == 1) 4 0);
      slots = 4;
      slot = λ x b i. cond (nat_lt i 4) (cond (leads x b i) (Some i) None) None;
    }
