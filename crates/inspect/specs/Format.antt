-- The layout of a sheet: blocks of 512 bytes, their check, and what the head block says. Assumes nothing.
use Rattle.std.specs.Prelude.{◌≡◌, ℕ, suc, ◌+◌, ◌*◌, ◌/◌, ◌%◌, ◌^◌, Bool, true, false, cond, List, [], ◌∷◌, ◌++◌, length, take, drop, codes, decimal, Some, None, Option, Result, MatchResult, ◌==◌, slice_index}
use Rattle.std.specs.Option.{unwrap_or}
use Rattle.inspect.specs.declared.block.Kind.{Kind}
use Rattle.inspect.specs.declared.block.Kind.TheVariants as kinds
use Rattle.inspect.specs.declared.head.NoSort.{NoSort}
use Rattle.inspect.specs.declared.head.Sort.{Sort}
use Rattle.inspect.specs.declared.head.Sort.TheVariants as sort
use Rattle.inspect.specs.declared.head.Asked.{Asked}
use Rattle.inspect.specs.declared.head.Asked.TheVariants as asked
use Rattle.inspect.specs.declared.head.Head.{Head}

-- how many blocks, where the length is a whole number of them
abbrev pub blocks : List ℕ → ℕ
blocks xs = length xs / 512

abbrev pub block : List ℕ → ℕ → List ℕ
block xs k = take 512 (drop (k * 512) xs)

abbrev pub byte : List ℕ → ℕ → ℕ
byte xs i = slice_index xs i

-- the sum of (i + 1) × byte i, the first of these bytes being number i
abbrev pub weighted : ℕ → List ℕ → ℕ
weighted i [] = 0
weighted i (x ∷ xs) = suc i * x + weighted (suc i) xs

-- the check of a block's first 510 bytes, and the one that it states, low byte first
abbrev pub check_of : List ℕ → ℕ
check_of b = weighted 0 (take 510 b) % 65521

abbrev pub check_stated : List ℕ → ℕ
check_stated b = byte b 510 + 256 * byte b 511

-- block 0 alone is the head
abbrev pub kind : ℕ → ℕ
kind k = cond (k == 0) 1 2

-- the byte that stands for a kind
abbrev pub kind_code : Kind → ℕ
kind_code kinds.Head = 1
kind_code kinds.Entries = 2

-- what lies between a block's number and its check
abbrev pub body : List ℕ → List ℕ
body b = drop 2 (take 510 b)

abbrev pub sort_of : ℕ → Option Sort
sort_of b = cond (b == 1) (Some sort.Rule) (cond (b == 2) (Some sort.Model) None)

abbrev pub sort_code : Sort → ℕ
sort_code sort.Rule = 1
sort_code sort.Model = 2

abbrev pub sort_words : Sort → List ℕ
sort_words sort.Rule = codes "rule"
sort_words sort.Model = codes "model"

-- what is said of a byte that stands for no sort
abbrev pub no_sort_words : NoSort → List ℕ
no_sort_words e = codes "no sort has byte " ++ decimal e.0

-- the result is the sort that the byte stands for, or an error with the byte, which stands for none
abbrev pub Stands : ℕ → Result Sort NoSort → Type 0
Stands b r = MatchResult r (λ s. sort_of b ≡ Some s) (λ e. (sort_of b ≡ None) × (e.0 ≡ b))

-- who asks for this sort alone
abbrev pub asked_for : Sort → Asked
asked_for sort.Rule = asked.Rule
asked_for sort.Model = asked.Model

abbrev pub takes : Asked → Sort → Bool
takes asked.Rule sort.Rule = true
takes asked.Rule sort.Model = false
takes asked.Model sort.Rule = false
takes asked.Model sort.Model = true
takes asked.Either s = true

-- four bytes, low byte first
abbrev pub word : List ℕ → ℕ → ℕ
word xs i = byte xs i + 256 * (byte xs (i + 1) + 256 * (byte xs (i + 2) + 256 * byte xs (i + 3)))

-- what a head block says: accepting bits past the locations, and the bytes after them, are ignored. (A byte that is no
-- sort is a fault, and what is said of it here is never used.)
abbrev pub head : List ℕ → Head
head b = record {
  sort = unwrap_or (sort_of (byte b 2)) sort.Rule;
  locations = byte b 3;
  letters = byte b 4;
  initial = byte b 5;
  accepting = word b 6 % 2 ^ byte b 3;
}
