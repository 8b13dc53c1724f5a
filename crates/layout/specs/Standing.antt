-- What stands in a sheet that is half written. Assumes nothing.
use Rattle.std.specs.Prelude.{◌≡◌, ℕ, ◌*◌, ◌/◌, ◌%◌, ◌≤◌, List, [], ◌∷◌, ◌++◌, length, drop, slice_index_or}
use Rattle.std.specs.List.{AllByRecursion}
use Rattle.formula.specs.declared.token.Token.{Token}
use Rattle.inspect.specs.Format.{kind}
use Rattle.inspect.specs.Denotes.{Entry, Content}
use Rattle.layout.specs.Cursors.{Spot}
use Rattle.layout.specs.Written.{packed, sealed_from, entries_from, written}

-- the tokens of a cell, the entry that they make, and the entries of this cell and those after it
abbrev pub tokens_at : Content → ℕ → List Token
tokens_at c q = slice_index_or c.formulas q []

abbrev pub entry_at : Content → ℕ → Entry
entry_at c q = record { location = q / c.head.letters; letter = q % c.head.letters; tokens = tokens_at c q }

abbrev pub entries_at : Content → ℕ → List Entry
entries_at c q = entries_from c.head.letters q (drop q c.formulas)

-- the blocks that are ended and the one that is open, which the entries es are to follow
pub record Stands (c : Content) (xs : List ℕ) (cursor : Spot) (es : List Entry) : Type 0 where
  pub past : List ℕ
  pub body : List ℕ
  pub after : List ℕ
  pub is : xs ≡ (past ++ kind cursor.block ∷ cursor.block ∷ body) ++ after
  pub block : length past ≡ cursor.block * 512
  pub used : length body ≡ cursor.used
  pub within : cursor.used ≤ 508
  pub rest : past ++ sealed_from cursor.block (packed body es) ≡ written c
  pub small : AllByRecursion (λ e. length e.tokens ≤ 255) es
  pub few : length (written c) ≤ 64 * 512
  pub room : length (written c) ≤ length xs
