-- What is kept of the vector is what was filled, all of it in the vector's own places.
use Rattle.std.proofs.Common.{rules, ◌≡◌, ◌≤◌, ℕ, List, ◌++◌, Option, Some, None, IfSome, arith, ap, subst, ◌∙◌, take, length}
use Rattle.std.proofs.lemmas.List.{take-take, take-append-le}
use Rattle.stream.proofs.read_front.Goals as goal

front : (o : Option (List ℕ)) (ys rest kept : List ℕ) (n m : ℕ) → length ys ≡ m → n ≤ length ys → kept ≡ take n (take m (ys ++ rest))
    → IfSome o (λ xs. take n ys ≡ take (length ys) xs) → IfSome o (λ xs. kept ≡ take m xs)
front None ys rest kept n m long fits is filled = tt
front (Some xs) ys rest kept n m long fits is filled =
    is ∙ take-take n m (ys ++ rest) (omega (arith, long, fits)) ∙ take-append-le n ys rest fits ∙ filled ∙ ap (λ i. take i xs) long

pub returns-clause-front : goal.returns-clause-front
returns-clause-front g c =
    let filled = c.in_ok-length.ensures in
    subst (λ m. IfSome (g.R.Read.remaining c.args.input) (λ xs. c.truncate.new.self.items ≡ take m xs)) c.in_ok-bytes.ensures.len
    (front _ _ _ _ _ _ (search rules) filled.fits c.truncate.ensures.items filled.front)
