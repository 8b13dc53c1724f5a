-- The bound: rounds that each lose a state, whose sweeps each gain one, count fewer than K × (K + 1) sweeps. Assumes nothing.
use Rattle.std.proofs.Common.{◌≡◌, ℕ, zero, suc, ◌+◌, ◌*◌, ◌<◌, ◌≤◌, List, [], ◌∷◌, length, sym, refl, ap, ◌∙◌, subst, ⊎_elim, suc-mul, add-mul, suc-add, zero-add, mul-one, mul-add, arith}
use Rattle.std.specs.List.{AllByRecursion}
use Rattle.std.proofs.lemmas.Nat.{mul-le}
use Rattle.std.proofs.ByRecursion.{All-weaker}
use Rattle.std.proofs.lemmas.Bool.{cases_lt}
use Rattle.graph.specs.Lists.{In, Distinct}
use Rattle.graph.specs.Meaning.{Meaning, Lawful, State, K}
use Rattle.graph.specs.Sets.{Y, X, Within, Same, Least, Rounds, Sum}
use Rattle.graph.proofs.Lists.{all_in, distinct_length}
use Rattle.graph.proofs.Sets.{y_state, y_falls, x_in_y, x_rises}

-- a state of the first set that the second lacks
abbrev pub Beyond : {S : Type 0} → (S → Type 0) → (S → Type 0) → Type 0
Beyond {S} P Q = (a : S) × P a × (Q a → ⊥)

-- each of the first j sweeps of round n gained a state
abbrev pub Gains : {S : Type 0} → Meaning S → ℕ → ℕ → Type 0
Gains m n j = (i : ℕ) → i < j → Beyond (X m n (suc i)) (X m n i)

-- a round of j sweeps that gained and one that did not, and that lost a state
pub record Round {S : Type 0} (m : Meaning S) (n j : ℕ) : Type 0 where
  pub gains : Gains m n j
  pub stays : Same (X m n (suc j)) (X m n j)
  pub loses : Beyond (Y m n) (Y m (suc n))

-- n such rounds, of t sweeps in all
abbrev pub Swept : {S : Type 0} → Meaning S → ℕ → ℕ → Type 0
Swept m zero t = t ≡ 0
Swept m (suc n) t = (u : ℕ) × (j : ℕ) × Swept m n u × Round m n j × (t ≡ u + suc j)

-- an inquiry in round n after j sweeps that gained, t in all
pub record Going {S : Type 0} (m : Meaning S) (n j t : ℕ) : Type 0 where
  pub before : ℕ
  pub swept : Swept m n before
  pub gains : Gains m n j
  pub count : t ≡ before + j

-- k distinct states of Q
record Told {S : Type 0} (m : Meaning S) (k : ℕ) (Q : S → Type 0) : Type 0 where
  told : List S
  long : length told ≡ k
  once : Distinct told
  are_states : AllByRecursion (State m) told
  hold : AllByRecursion Q told

some_state : {S : Type 0} (a : S) (xs : List S) → In a xs → 1 ≤ length xs
some_state a [] i = elim i [ ]
some_state a (x ∷ xs) i = omega arith

module _ {S : Type 0} (m : Meaning S) where
  gains_more : (n j : ℕ) → Gains m n j → Beyond (X m n (suc j)) (X m n j) → Gains m n (suc j)
  gains_more n j g b i lt =
      ⊎_elim (g i) (λ ge. let e : j ≡ i = omega arith in subst (λ k. Beyond (X m n (suc k)) (X m n k)) e b) (cases_lt i j)

  gains_least : (n j : ℕ) → Gains m n j → Same (X m n (suc j)) (X m n j) → Least m n j
  gains_least n j g stays = record { stays = stays; first = λ i lt same. let b = g i lt in b.2 (same.0 b.0 b.1) }

  swept_rounds : (n t : ℕ) → Swept m n t → Rounds m n t
  swept_rounds zero t s = s
  swept_rounds (suc n) t s = (s.0, s.1, swept_rounds n s.0 s.2, gains_least n s.1 s.3.gains s.3.stays, s.4)

  -- how it goes on: opened, with a sweep that gained, with the end of a round that lost
  pub going_opened : Going m 0 0 0
  going_opened = record { before = 0; swept = refl; gains = λ i lt. absurd (omega arith); count = refl }

  pub going_gained : (n j t : ℕ) → Going m n j t → Beyond (X m n (suc j)) (X m n j) → Going m n (suc j) (suc t)
  going_gained n j t g b = record { before = g.before; swept = g.swept; gains = gains_more n j g.gains b; count = omega (arith, g.count) }

  pub going_round : (n j t : ℕ) → Going m n j t → Same (X m n (suc j)) (X m n j) → Beyond (Y m n) (Y m (suc n)) → Going m (suc n) 0 (suc t)
  going_round n j t g stays loses = record {
    before = suc t;
    swept = (g.before, j, g.swept, record { gains = g.gains; stays = stays; loses = loses }, omega (arith, g.count));
    gains = λ i lt. absurd (omega arith);
    count = omega arith;
  }

  -- the count is the sum, also where the round ends and nothing need be lost
  pub going_sum : (n j t : ℕ) → Going m n j t → Sum m n j t
  going_sum n j t g = (g.before, swept_rounds n g.before g.swept, g.count)

  pub ended_sum : (n j t : ℕ) → Going m n j t → Same (X m n (suc j)) (X m n j) → Sum m (suc n) 0 (suc t)
  ended_sum n j t g stays =
      (suc t, (g.before, j, swept_rounds n g.before g.swept, gains_least n j g.gains stays, omega (arith, g.count)), omega arith)

  told_few : (k : ℕ) (Q : S → Type 0) → Told m k Q → k ≤ K m
  told_few k Q t = omega (arith, distinct_length t.told m.states t.once t.are_states, t.long)

  told_more : (k : ℕ) (Q R : S → Type 0) → Within Q R → Told m k Q → (a : S) → State m a → (Q a → ⊥) → R a → Told m (suc k) R
  told_more k Q R q-r t a s new r = record {
    told = a ∷ t.told;
    long = ap suc t.long;
    once = (λ i. new (all_in Q t.told a t.hold i), t.once);
    are_states = (s, t.are_states);
    hold = (r, All-weaker Q R q-r t.told t.hold);
  }

  -- the states that the rounds before n lost
  lost : (n t : ℕ) → Swept m n t → Told m n (λ a. Y m n a → ⊥)
  lost zero t s = record { told = []; long = refl; once = tt; are_states = tt; hold = tt }
  lost (suc n) t s =
      let b = s.3.loses in
      told_more n (λ a. Y m n a → ⊥) (λ a. Y m (suc n) a → ⊥) (λ a out y. out (y_falls m n a y)) (lost n s.0 s.2) b.0 (y_state m n b.0 b.1) (λ out. out b.1) b.2

  -- and those that round n gained
  gained : (n k : ℕ) → Told m k (λ a. Y m n a → ⊥) → (j : ℕ) → Gains m n j → Told m (j + k) (λ a. Y m n a → X m n j a)
  gained n k t zero g = record {
    told = t.told;
    long = t.long ∙ sym (zero-add k);
    once = t.once;
    are_states = t.are_states;
    hold = All-weaker (λ a. Y m n a → ⊥) (λ a. Y m n a → X m n 0 a) (λ a out y. absurd (out y)) t.told t.hold;
  }
  gained n k t (suc j) g =
      let b = g j (omega arith) in
      let inside = y_falls m n b.0 (x_in_y m n (suc j) b.0 b.1) in
      rw suc-add (told_more (j + k) (λ a. Y m n a → X m n j a) (λ a. Y m n a → X m n (suc j) a) (λ a f y. x_rises m n j (suc j) (omega arith) a (f y)) (gained n k t j (λ i lt. g i (omega arith))) b.0 (y_state m n b.0 inside) (λ f. b.2 (f inside)) (λ y. b.1))

  -- lost and gained states are distinct
  rounds_few : (n t j : ℕ) → Swept m n t → Gains m n j → n + j ≤ K m
  rounds_few n t j s g = omega (arith, told_few (j + n) (λ a. Y m n a → X m n j a) (gained n n (lost n t s) j g))

  round_few : (n t j : ℕ) → Swept m n t → Round m n j → n + suc j ≤ K m
  round_few n t j s r =
      let b = r.loses in
      let all = told_more (j + n) (λ a. Y m n a → X m n j a) (λ a. Unit {0}) (λ a f. tt) (gained n n (lost n t s) j r.gains) b.0 (y_state m n b.0 b.1) (λ f. b.2 (x_in_y m n j b.0 (f b.1))) tt in
      omega (arith, told_few (suc (j + n)) (λ a. Unit {0}) all)

  swept_few : (n t : ℕ) → Swept m n t → t ≤ n * K m
  swept_few zero t s = omega arith
  swept_few (suc n) t s = omega (arith, swept_few n s.0 s.2, round_few n s.0 s.1 s.2 s.3, suc-mul n (K m), s.4)

  pub going_few : Lawful m → (n j t : ℕ) → Going m n j t → t ≤ K m * K m
  going_few l n j t g =
      let k = K m in
      let some = some_state m.start m.states l.start_state in
      omega (arith, g.count, swept_few n g.before g.swept, mul-le (n + j) k k k (rounds_few n g.before j g.swept g.gains) (omega arith), add-mul n j k, mul-le j 1 j k (omega arith) some, mul-one j)

  pub going_below : Lawful m → (n j t : ℕ) → Going m n j t → t < K m * (K m + 1)
  going_below l n j t g =
      let k = K m in
      omega (arith, going_few l n j t g, some_state m.start m.states l.start_state, mul-add k k 1, mul-one k)
