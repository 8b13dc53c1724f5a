-- What a list holds, and lists of states none of which is below another. Assumes nothing.
use Rattle.std.specs.Prelude.{◌≡◌, Bool, true, false, ◌⊎◌, List, [], ◌∷◌, ◌++◌, map}
use Rattle.std.specs.List.{AllByRecursion}

abbrev pub In : {S : Type 0} → S → List S → Type 0
In x [] = ⊥
In x (y ∷ ys) = (x ≡ y) ⊎ In x ys

-- each element once
abbrev pub Distinct : {S : Type 0} → List S → Type 0
Distinct [] = Unit {0}
Distinct (x ∷ xs) = (In x xs → ⊥) × Distinct xs

-- f of every one of the first with every one of the others
abbrev pub products : {A B C : Type 0} → (A → B → C) → List A → List B → List C
products f [] ys = []
products f (x ∷ xs) ys = map (f x) ys ++ products f xs ys

-- a is below some element
abbrev pub Covered : {S : Type 0} → (S → S → Bool) → List S → S → Type 0
Covered below [] a = ⊥
Covered below (x ∷ xs) a = (below a x ≡ true) ⊎ Covered below xs a

-- none is below another
abbrev pub Apart : {S : Type 0} → (S → S → Bool) → List S → Type 0
Apart below [] = Unit {0}
Apart below (x ∷ xs) = AllByRecursion (λ y. (below x y ≡ false) × (below y x ≡ false)) xs × Apart below xs
