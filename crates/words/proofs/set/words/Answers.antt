-- Each location that comes is the next member.
use Rattle.std.proofs.Common.{[], ◌∷◌, ◌++◌, map, string_bytes, decimal, vec_items, ap, ap₂, sym, ◌∙◌, map-id, arith, rules, tests}
use Rattle.std.proofs.lemmas.Iterator.{YieldsList-from_range}
use Rattle.std.proofs.lemmas.Iterator.Consumers.{YieldsList-from_filter, YieldsList-at, YieldsList-end}
use Rattle.std.proofs.lemmas.List.{map_push}
use Rattle.formula.specs.Sets.{has}
use Rattle.words.proofs.set.words.Goals as goal

pub loop-location-preserved : goal.loop-location-preserved
loop-location-preserved c =
    ap (map string_bytes) c.in_ok-push.ensures.items
    ∙ map_push string_bytes (vec_items c.loop-location.words) c.in_ok-to_string.field-0
    ∙ ap₂ (λ bs b. bs ++ b ∷ []) c.loop-location.invariant c.in_ok-to_string.ensures.ok
    ∙ sym (map_push decimal c.loop-location.yielded c.in-Some.location)

pub returns : goal.returns
returns c =
    let locations = c.args.locations in
    let in_range = YieldsList-from_range 0 locations locations c.filter-location-items.ensures.source (omega arith) in
    let all = YieldsList-end (YieldsList-at c.into_iter-location-iterator.ensures.into_iter_gives (YieldsList-from_filter _ (has c.args.set) in_range c.filter-location-items.ensures.closure (λ x r q k. search (rules, tests)))) c.loop-location.yielded _ c.loop-location.yielded_by _ _ c.in-None.is c.next.ensures.steps in
    c.loop-location.invariant ∙ ap (map decimal) (sym (map-id c.loop-location.yielded) ∙ all.0)
