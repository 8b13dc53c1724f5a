-- Bytes filled from the front by what an input gives.
use Rattle.std.proofs.Common.{◌≡◌, ℕ, ◌+◌, ◌≤◌, List, ◌++◌, Option, None, Some, IfSome, length, take, drop, sym, ap, subst, ◌∙◌, arith, length-take-le, take_all}
use Rattle.std.proofs.Math.Seq.{take-add}
use Rattle.std.proofs.lemmas.List.{take_at}
use Rattle.std.specs.Io.KnownBytes.{Consumes, IsAtEnd}
use Rattle.std.proofs.KnownBytes.{Consumes-trans, Consumes-whole}

-- xs had n bytes of the input, and ys has these and m more
pub filled_more : (a b c : Option (List ℕ)) (xs ys : List ℕ) (n m : ℕ) → take n ys ≡ take n xs → Consumes a b (take n xs)
    → Consumes b c (take m (drop n ys)) → Consumes a c (take (n + m) ys)
filled_more a b c xs ys n m same before read =
    subst (Consumes a c) (sym (take-add n m ys ∙ ap (λ zs. zs ++ take m (drop n ys)) same)) (Consumes-trans a b c _ _ before read)

-- all the places are filled
pub filled_whole : (a b : Option (List ℕ)) (xs : List ℕ) (n : ℕ) → n ≡ length xs → Consumes a b (take n xs)
    → IfSome a (λ zs. take n xs ≡ take (length xs) zs)
filled_whole None b xs n whole read = tt
filled_whole (Some zs) None xs n whole read = absurd read
filled_whole (Some zs) (Some ys) xs n whole read =
    sym (ap (take (length xs)) read ∙ take_at (take n xs) ys (length xs) (length-take-le n xs (omega arith) ∙ whole))

-- the input has no more to give: the last read gave nothing
pub filled_out : (a b : Option (List ℕ)) (xs : List ℕ) (n m : ℕ) → n + m ≤ length xs → m ≡ 0 → Consumes a b (take (n + m) xs) → IsAtEnd b
    → IfSome a (λ zs. take n xs ≡ take (length xs) zs)
filled_out a b xs n m fits none read end =
    let same : n + m ≡ n = omega (arith, none) in
    let within : length (take n xs) ≤ length xs = subst (λ l. l ≤ length xs) (sym (length-take-le n xs (omega (arith, fits)))) (omega (arith, fits)) in
    Consumes-whole a b (take n xs) (λ zs. take n xs ≡ take (length xs) zs) (subst (λ i. Consumes a b (take i xs)) same read) end
    (sym (take_all (length xs) (take n xs) within))
