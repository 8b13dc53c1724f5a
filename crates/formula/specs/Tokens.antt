-- Tokens and the bytes that stand for them. Assumes nothing.
use Rattle.std.specs.Prelude.{◌≡◌, ℕ, cond, List, ◌++◌, codes, decimal, Some, None, Option, Result, MatchResult, ◌==◌, nat_lt}
use Rattle.formula.specs.declared.token.NoToken.{NoToken}
use Rattle.formula.specs.declared.token.Token.{Token}
use Rattle.formula.specs.declared.token.Token.TheVariants.{Location, True, False, And, Or}

-- the byte that stands for a token: a location is its number
abbrev pub code : Token → ℕ
code (Location l) = l
code True = 0x40
code False = 0x41
code And = 0x42
code Or = 0x43

-- the token that a byte stands for, if any
abbrev pub token : ℕ → Option Token
token b =
    cond (nat_lt b 32) (Some (Location b))
    (cond (b == 0x40) (Some True)
    (cond (b == 0x41) (Some False)
    (cond (b == 0x42) (Some And)
    (cond (b == 0x43) (Some Or) None))))

-- what is said of a byte that stands for no token
abbrev pub no_token_words : NoToken → List ℕ
no_token_words e = codes "no token has byte " ++ decimal e.0

-- the result is the token that the byte stands for, or an error with the byte, which stands for none
abbrev pub Stands : ℕ → Result Token NoToken → Type 0
Stands b r = MatchResult r (λ t. token b ≡ Some t) (λ e. (token b ≡ None) × (e.0 ≡ b))
