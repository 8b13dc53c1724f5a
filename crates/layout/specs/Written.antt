-- The sheet that is written for a content. Assumes nothing.
use Rattle.std.specs.Prelude.{ℕ, suc, ◌+◌, ◌-◌, ◌/◌, ◌%◌, Bool, cond, List, [], ◌∷◌, ◌++◌, length, replicate, nat_le, nat_lt}
use Rattle.formula.specs.declared.token.Token.{Token}
use Rattle.inspect.specs.declared.head.Head.{Head}
use Rattle.inspect.specs.Format.{kind, sort_code, weighted}
use Rattle.inspect.specs.Denotes.{Entry, Content, entry_bytes}

-- n zeros (it stays shut, so that no proof meets five hundred of them)
unfoldable pub zeros : ℕ → List ℕ
zeros n = replicate n 0

-- block k: kind, number, 508 bytes, and the check of these, low byte first
abbrev pub with_check : List ℕ → List ℕ
with_check front = front ++ (weighted 0 front % 65521 % 256) ∷ (weighted 0 front % 65521 / 256) ∷ []

abbrev pub sealed : ℕ → List ℕ → List ℕ
sealed k payload = with_check (kind k ∷ k ∷ payload)

-- the head: what no field has is zero
abbrev pub head_payload : Head → List ℕ
head_payload h =
    sort_code h.sort ∷ h.locations ∷ h.letters ∷ h.initial
    ∷ (h.accepting % 256) ∷ (h.accepting / 256 % 256) ∷ (h.accepting / 65536 % 256) ∷ (h.accepting / 16777216)
    ∷ zeros 500

-- FF follows a block's last entry if a byte is left, then zeros
abbrev pub closed : List ℕ → List ℕ
closed body = cond (nat_lt (length body) 508) (body ++ 0xff ∷ zeros (507 - length body)) body

-- an entry goes into the current block, which holds `body` so far, if it fits before byte 510, else into a new one
abbrev pub fits : List ℕ → Entry → Bool
fits body e = nat_le (length body + length (entry_bytes e)) 508

-- the bodies of the blocks that hold these entries
abbrev pub packed : List ℕ → List Entry → List (List ℕ)
packed body [] = body ∷ []
packed body (e ∷ es) = cond (fits body e) (packed (body ++ entry_bytes e) es) (body ∷ packed (entry_bytes e) es)

abbrev pub bodies : List Entry → List (List ℕ)
bodies [] = []
bodies (e ∷ es) = packed (entry_bytes e) es

abbrev pub sealed_from : ℕ → List (List ℕ) → List ℕ
sealed_from k [] = []
sealed_from k (b ∷ bs) = sealed k (closed b) ++ sealed_from (suc k) bs

-- the entries of a content: the places q and on of its table that have tokens
abbrev pub entries_from : ℕ → ℕ → List (List Token) → List Entry
entries_from letters q [] = []
entries_from letters q ([] ∷ table) = entries_from letters (suc q) table
entries_from letters q ((t ∷ ts) ∷ table) =
    record { location = q / letters; letter = q % letters; tokens = t ∷ ts } ∷ entries_from letters (suc q) table

abbrev pub entries_of : Content → List Entry
entries_of c = entries_from c.head.letters 0 c.formulas

-- (it stays shut too, so that a goal about a sheet can be read)
unfoldable pub written : Content → List ℕ
written c = sealed 0 (head_payload c.head) ++ sealed_from 1 (bodies (entries_of c))
