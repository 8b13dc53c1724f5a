-- What is known of the test that a sweep asks of each state found. Assumes nothing.
use Rattle.std.specs.Prelude.{◌≡◌, Bool}

-- every answer is that of the test
abbrev pub Decided : {S : Type 0} → (S → Bool → Type 0) → (S → Bool) → Type 0
Decided {S} answers test = (c : S) (b : Bool) → answers c b → b ≡ test c
