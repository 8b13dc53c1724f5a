-- What is wrong with a sheet, in words. Assumes nothing.
use Rattle.std.specs.Prelude.{ℕ, cond, List, ◌++◌, codes, decimal, ◌==◌}
use Rattle.inspect.specs.declared.fault.Place.{Place}
use Rattle.inspect.specs.declared.fault.Refusal.{Refusal}
use Rattle.inspect.specs.declared.fault.FormulaFault.{FormulaFault}
use Rattle.inspect.specs.declared.fault.FormulaFault.TheVariants.{Token, Waiting}
use Rattle.inspect.specs.declared.fault.EntryFault.{EntryFault}
use Rattle.inspect.specs.declared.fault.EntryFault.TheVariants.{Entry, Tokens, Formula}
use Rattle.inspect.specs.declared.fault.BlockFault.{BlockFault}
use Rattle.inspect.specs.declared.fault.BlockFault.TheVariants.{Length, Check, Kind, Head, Entry as InEntry}

abbrev pub kind_words : Place → List ℕ
kind_words p =
    cond (p.byte == 1) (codes "the block does not state its own number")
    (cond (p.block == 0) (codes "the first block is not a head") (codes "the block is not one of entries"))

-- by the byte of the head
abbrev pub head_words : ℕ → List ℕ
head_words byte =
    cond (byte == 2) (codes "the sort is not one that is asked for")
    (cond (byte == 3) (codes "there are not 1 to 32 locations")
    (cond (byte == 4) (codes "there are not 1 to 8 letters") (codes "the initial location is not one of the locations")))

abbrev pub formula_words : FormulaFault → List ℕ
formula_words (Token p) = codes "no token of this sort of sheet, or a location that the head lacks"
formula_words (Waiting p) = codes "a connective short of two values, a 33rd value, or not exactly one value left"

abbrev pub entry_words : EntryFault → List ℕ
entry_words (Entry p) =
    codes "an entry with a location or letter that the head lacks, no tokens, past byte 509, or out of order"
entry_words (Tokens p) = codes "more than 4096 tokens in all"
entry_words (Formula f) = formula_words f

abbrev pub words : BlockFault → List ℕ
words Length = codes "the length is not 1 to 64 blocks of 512 bytes"
words (Check p) = codes "the block's check does not match its bytes"
words (Kind p) = kind_words p
words (Head p) = head_words p.byte
words (InEntry f) = entry_words f

-- a refusal's number and place
abbrev pub refusal_words : Refusal → List ℕ
refusal_words r =
    codes "refused " ++ (decimal r.number ++ (codes " " ++ (decimal r.place.block ++ (codes " " ++ decimal r.place.byte))))
