-- The graph of a rule: pairs of a held set and an owed set. Assumes nothing.
use Rattle.std.specs.Prelude.{◌≡◌, ℕ, zero, suc, ◌^◌, Bool, true, false, cond, not, ◌&&◌, ◌||◌, ◌⊎◌, List, Some, None, filter, Option, ◌==◌, ◌≢◌, bit_and, bit_or, nat_lt}
use Rattle.std.specs.List.{range_with_len}
use Rattle.formula.specs.Sets.{has, Within}
use Rattle.graph.specs.Lists.{products}
use Rattle.graph.specs.Meaning.{Meaning}
use Rattle.rule_graph.specs.declared.masks.Masks.{Masks}
use Rattle.rule_graph.specs.Alternating.{Alternating}

-- the set of the locations below n that pass
unfoldable pub those : ℕ → (ℕ → Bool) → ℕ
those zero f = 0
those (suc n) f = bit_or (cond (f n) (2 ^ n) 0) (those n f)

-- whether each member of the first set is one of the second
abbrev pub part : ℕ → ℕ → Bool
part a b = bit_and a b == a

abbrev pub pair : ℕ → ℕ → Masks
pair held owed = record { held = held; owed = owed }

abbrev pub all : Alternating → ℕ
all r = those r.locations (λ l. true)

-- a set without the accepting locations
abbrev pub unsettled : Alternating → ℕ → ℕ
unsettled r s = those r.locations (λ l. has s l && not (has r.accepting l))

-- the locations whose formula the set satisfies
abbrev pub satisfied : Alternating → ℕ → ℕ → ℕ
satisfied r x s = those r.locations (λ l. r.satisfies x l s)

-- what is owed, joined with the accepting part of what is held
abbrev pub settling : Alternating → Masks → ℕ
settling r p = those r.locations (λ l. has p.owed l || (has p.held l && has r.accepting l))

-- locations only; the owed set lies inside the held set, and has no accepting location
abbrev pub is_pair : Alternating → Masks → Bool
is_pair r p = nat_lt p.held (2 ^ r.locations) && (part p.owed p.held && bit_and p.owed r.accepting == 0)

-- every pair once
abbrev pub pairs : Alternating → List Masks
pairs r = filter (is_pair r) (products pair (range_with_len 0 (2 ^ r.locations)) (range_with_len 0 (2 ^ r.locations)))

-- both or neither
abbrev pub alike : Bool → Bool → Bool
alike true c = c
alike false c = not c

abbrev pub below : Masks → Masks → Bool
below a b = part a.held b.held && (part a.owed b.owed && alike (a.owed == 0) (b.owed == 0))

-- what a step comes to owe: where nothing was owed, all that is held and not accepting; else some part u of what is held
-- satisfies all that was owed, and what of u is not accepting is owed
abbrev pub Owes : Alternating → ℕ → Masks → Masks → Type 0
Owes r x a b =
    ((a.owed ≡ 0) × (b.owed ≡ unsettled r b.held))
    ⊎ ((a.owed ≢ 0) × ((u : ℕ) × Within u b.held × ((l : ℕ) → has a.owed l ≡ true → r.satisfies x l u ≡ true) × (b.owed ≡ unsettled r u)))

pub record Steps (r : Alternating) (x : ℕ) (a b : Masks) : Type 0 where
  pub to_pair : is_pair r b ≡ true
  -- what is held next satisfies the formulas of all that is held
  pub held : (l : ℕ) → has a.held l ≡ true → r.satisfies x l b.held ≡ true
  pub owed : Owes r x a b

-- holding all that the held set satisfies, and owing what of t is not accepting, unless that is nothing
abbrev pub owing_slot : Alternating → ℕ → ℕ → ℕ → Option Masks
owing_slot r x held t = cond (unsettled r t == 0) None (Some (pair (satisfied r x held) (unsettled r t)))

-- t is what the settling set satisfies; slot 0 owes nothing
abbrev pub slot_of : Alternating → ℕ → Masks → ℕ → Option Masks
slot_of r x b i =
    let t : ℕ = satisfied r x (settling r b) in
    cond (i == 0) (Some (pair t 0)) (cond (i == 1) (owing_slot r x b.held t) None)

-- of masks that are no pair no slot holds anything; past the second, a top is the second
abbrev pub rule_means : Alternating → Meaning Masks
rule_means r =
    record {
      letters = r.letters;
      states = pairs r;
      start = pair (2 ^ r.initial) 0;
      accepts = λ a. (a.owed == 0);
      below = below;
      step = Steps r;
      tops = cond (unsettled r (all r) == 0) 1 2;
      top = λ i. pair (all r) (cond (i == 0) 0 (unsettled r (all r)));
      slots = 2;
      slot = λ x b i. cond (is_pair r b) (slot_of r x b i) None;
    }
