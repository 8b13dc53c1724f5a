-- The test of a content and what it says.
use Rattle.std.proofs.Common.{◌≡◌, true}
use Rattle.std.proofs.lemmas.Bool.{and_parts, and_from, ltb-true, leb-true, eqb-true, lt-ltb, le-leb, eq-eqb}
use Rattle.inspect.specs.Denotes.{Content}
use Rattle.layout.specs.Valid.{Valid, is_valid}

pub test_valid : (c : Content) → is_valid c ≡ true → Valid c
unfolding is_valid
test_valid c t =
    let all = and_parts _ _ t in
    let l = and_parts _ _ all.0 in
    let few = and_parts _ _ l.1 in
    let a = and_parts _ _ few.1 in
    let b = and_parts _ _ a.1 in
    let rest = and_parts _ _ all.1 in
    let long = and_parts _ _ rest.1 in
    let forms = and_parts _ _ long.1 in
    record {
      fields = record { some_location = ltb-true _ _ l.0; locations = leb-true _ _ few.0; some_letter = ltb-true _ _ a.0; letters = leb-true _ _ b.0; initial = ltb-true _ _ b.1 };
      accepting = ltb-true _ _ rest.0;
      long = eqb-true _ _ long.0;
      formulas = forms.0;
      tokens = leb-true _ _ forms.1;
    }

pub valid_test : (c : Content) → Valid c → is_valid c ≡ true
unfolding is_valid
valid_test c v =
    let f = v.fields in
    and_from _ _
    (and_from _ _ (lt-ltb _ _ f.some_location) (and_from _ _ (le-leb _ _ f.locations) (and_from _ _ (lt-ltb _ _ f.some_letter) (and_from _ _ (le-leb _ _ f.letters) (lt-ltb _ _ f.initial)))))
    (and_from _ _ (lt-ltb _ _ v.accepting) (and_from _ _ (eq-eqb _ _ v.long) (and_from _ _ v.formulas (le-leb _ _ v.tokens))))
