-- Parts of a store of tokens. Assumes nothing.
use Rattle.std.specs.Prelude.{ℕ, ◌+◌, Bool, List, map, take, drop, nat_le}
use Rattle.formula.specs.declared.token.Token.{Token}
use Rattle.sheet.specs.declared.span.Span.{Span}

-- a span that lies in a store of n tokens
abbrev pub within : ℕ → Span → Bool
within n s = nat_le (s.start + s.length) n

abbrev pub part : List Token → Span → List Token
part tokens s = take s.length (drop s.start tokens)

abbrev pub parts : List Span → List Token → List (List Token)
parts spans tokens = map (part tokens) spans
