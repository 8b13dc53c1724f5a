-- The number of each refusal, and its words. Assumes nothing.
use Rattle.std.specs.Prelude.{ℕ, List, codes}
use Rattle.inquiry.specs.declared.refusal.Refusal.{Refusal}
use Rattle.inquiry.specs.declared.refusal.Refusal.TheVariants.{Tables, Limit, Tops, Places, Stopped, Room, Wider}

abbrev pub number : Refusal → ℕ
number Tables = 12
number Limit = 13
number Tops = 14
number Places = 15
number Stopped = 16
number Room = 17
number Wider = 18

-- as it is printed
abbrev pub refusal_words : Refusal → List ℕ
refusal_words Tables = codes "tables unequal, or of no place or more than 4,096"
refusal_words Limit = codes "a limit of 0"
refusal_words Tops = codes "more tops than places"
refusal_words Places = codes "a table that has not the inquiry's places"
refusal_words Stopped = codes "not running"
refusal_words Room = codes "not full"
refusal_words Wider = codes "new tables unequal, not longer, or of more than 4,096 places"
