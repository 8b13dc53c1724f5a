-- What is asked of a sheet, in the order of phases and places, and its first fault. Assumes nothing.
use Rattle.std.specs.Prelude.{◌≡◌, ℕ, zero, suc, ◌+◌, ◌-◌, ◌*◌, ◌%◌, Bool, true, false, cond, ◌&&◌, List, [], ◌∷◌, ◌++◌, length, Some, None, Option, ◌==◌, nat_le, nat_lt}
use Rattle.std.specs.List.{AllByRecursion}
use Rattle.formula.specs.declared.token.Token.{Token}
use Rattle.formula.specs.declared.token.Token.TheVariants.{Location, True, False, And, Or}
use Rattle.formula.specs.Tokens.{token}
use Rattle.formula.specs.Shape.{room, moved}
use Rattle.inspect.specs.declared.fault.Refusal.{Refusal}
use Rattle.inspect.specs.declared.fault.Layer.TheVariants as layer
use Rattle.inspect.specs.declared.head.Sort.{Sort}
use Rattle.inspect.specs.declared.head.Sort.TheVariants as sort
use Rattle.inspect.specs.declared.head.Asked.{Asked}
use Rattle.inspect.specs.declared.head.Head.{Head}
use Rattle.inspect.specs.Refusals.{place, refused}
use Rattle.inspect.specs.Format.{blocks, block, byte, check_of, check_stated, kind, sort_of, takes, head}
use Rattle.inspect.specs.Entries.{Placed, all_entries}

-- one question, with the refusal that is given where the answer is no
pub record Check : Type 0 where
  pub refusal : Refusal
  pub holds : Bool

abbrev pub ask : Refusal → Bool → Check
ask r b = record { refusal = r; holds = b }

-- 1: a sheet is 1 to 64 blocks
abbrev pub length_check : List ℕ → Check
length_check xs = ask (refused layer.Block 1 (place 0 0)) (length xs % 512 == 0 && (nat_lt 0 (blocks xs) && nat_le (blocks xs) 64))

-- 2 and 3: each block states its check, its kind and its number
abbrev pub block_checks : ℕ → List ℕ → List Check
block_checks k b =
    ask (refused layer.Block 2 (place k 510)) (check_stated b == check_of b)
    ∷ ask (refused layer.Block 3 (place k 0)) (byte b 0 == kind k)
    ∷ ask (refused layer.Block 3 (place k 1)) (byte b 1 == k)
    ∷ []

abbrev pub all_block_checks : List ℕ → ℕ → ℕ → List Check
all_block_checks xs k zero = []
all_block_checks xs k (suc n) = block_checks k (block xs k) ++ all_block_checks xs (suc k) n

-- 4: the head's fields, in byte order
abbrev pub sort_taken : Asked → Option Sort → Bool
sort_taken asked None = false
sort_taken asked (Some s) = takes asked s

abbrev pub head_checks : Asked → List ℕ → List Check
head_checks asked b =
    ask (refused layer.Block 4 (place 0 2)) (sort_taken asked (sort_of (byte b 2)))
    ∷ ask (refused layer.Block 4 (place 0 3)) (nat_lt 0 (byte b 3) && nat_le (byte b 3) 32)
    ∷ ask (refused layer.Block 4 (place 0 4)) (nat_lt 0 (byte b 4) && nat_le (byte b 4) 8)
    ∷ ask (refused layer.Block 4 (place 0 5)) (nat_lt (byte b 5) (byte b 3))
    ∷ []

-- 5 and 8: each entry, at its first byte. Entries rise by location and then by letter: `least` is the least that may
-- come next, and `total` is how many tokens there were before
abbrev pub key : Placed → ℕ
key e = e.location * 8 + e.letter

abbrev pub in_place : Head → ℕ → Placed → Bool
in_place h least e =
    e.fits && (nat_lt e.location h.locations && (nat_lt e.letter h.letters && (nat_lt 0 (length e.tokens) && nat_le least (key e))))

abbrev pub entry_checks : Head → ℕ → ℕ → List Placed → List Check
entry_checks h least total [] = []
entry_checks h least total (e ∷ es) =
    ask (refused layer.Entry 5 (place e.block e.byte)) (in_place h least e)
    ∷ ask (refused layer.Entry 8 (place e.block e.byte)) (nat_le (total + length e.tokens) 4096)
    ∷ entry_checks h (suc (key e)) (total + length e.tokens) es

-- 6 and 7: each token, at its byte, and the one value that is left, at the entry's first byte; w values wait
abbrev pub allowed : Sort → ℕ → Token → Bool
allowed s n (Location l) = nat_lt l n
allowed sort.Rule n True = true
allowed sort.Model n True = false
allowed s n False = true
allowed sort.Rule n And = true
allowed sort.Model n And = false
allowed s n Or = true

abbrev pub known : Sort → ℕ → Option Token → Bool
known s n None = false
known s n (Some t) = allowed s n t

abbrev pub has_room : Option Token → ℕ → Bool
has_room None w = true
has_room (Some t) w = room t w

abbrev pub waits : Option Token → ℕ → ℕ
waits None w = w
waits (Some t) w = moved t w

abbrev pub formula_checks : Head → ℕ → ℕ → ℕ → ℕ → List ℕ → List Check
formula_checks h k first at w [] = ask (refused layer.Formula 7 (place k first)) (w == 1) ∷ []
formula_checks h k first at w (b ∷ bs) =
    ask (refused layer.Formula 6 (place k at)) (known h.sort h.locations (token b))
    ∷ ask (refused layer.Formula 7 (place k at)) (has_room (token b) w)
    ∷ formula_checks h k first (suc at) (waits (token b) w) bs

abbrev pub token_checks : Head → List Placed → List Check
token_checks h [] = []
token_checks h (e ∷ es) = formula_checks h e.block e.byte (e.byte + 3) 0 e.tokens ++ token_checks h es

-- everything that is asked of a sheet, in order
abbrev pub checks : Asked → List ℕ → List Check
checks asked xs =
    let h : Head = head (block xs 0) in
    let es : List Placed = all_entries xs 1 (blocks xs - 1) in
    length_check xs ∷ (all_block_checks xs 0 (blocks xs) ++ (head_checks asked (block xs 0) ++ (entry_checks h 0 0 es ++ token_checks h es)))

-- the refusal of the first check that does not hold
abbrev pub first : List Check → Option Refusal
first [] = None
first (c ∷ cs) = cond c.holds (first cs) (Some c.refusal)

-- a sheet's first fault: a check that does not hold, after checks that all do
pub record FirstFault (asked : Asked) (xs : List ℕ) (r : Refusal) : Type 0 where
  pub before : List Check
  pub failing : Check
  pub after : List Check
  pub order : checks asked xs ≡ before ++ failing ∷ after
  pub pass : AllByRecursion (λ c. c.holds ≡ true) before
  pub fails : failing.holds ≡ false
  pub is : r ≡ failing.refusal
