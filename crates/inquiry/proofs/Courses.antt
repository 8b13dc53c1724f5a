-- Every position that a course reaches keeps the promise. Assumes nothing.
use Rattle.std.proofs.Common.{◌≡◌, ℕ, zero, suc, ◌+◌, ◌*◌, ◌<◌, ◌≤◌, true, false, cond, ◌&&◌, eqb, [], length, Some, None, Option, sym, refl, ap, ◌∙◌, subst, ⊎_elim, arith}
use Rattle.std.proofs.lemmas.Bool.{both_ways, cond_both, and_parts, eqb-true, cases_Bool}
use Rattle.graph.specs.Adding.{covered, all_covered, Table, unchanged, filled}
use Rattle.graph.specs.Candidates.{all_tops}
use Rattle.graph.specs.Lists.{Apart}
use Rattle.graph.specs.Meaning.{Meaning, Lawful, K}
use Rattle.graph.specs.Sets.{Y, X, Same, Represents, Sum, Crowded}
use Rattle.graph.specs.Walks.{Loop}
use Rattle.graph.proofs.Bound.{Going, going_opened, going_gained, going_round, going_sum, ended_sum, going_below}
use Rattle.graph.proofs.Candidates.{Sweeps, Brought, Opened, x_empty, sweeps, opens}
use Rattle.graph.proofs.Verdict.{round_ends, no_loop, a_loop, loses}
use Rattle.inquiry.specs.declared.standing.Standing.{Standing}
use Rattle.inquiry.specs.declared.standing.Standing.TheVariants.{Running, Possible, Impossible, Full, Spent}
use Rattle.inquiry.specs.Course.{Course, by_open, by_run, by_widen, before_full, Promise}
use Rattle.inquiry.specs.Position.{Position, stands, in_places, held_of, opened, brought, gained, ended, limited, after, swept, ran, widened}
use Rattle.inquiry.specs.Standing.{running, going}
use Rattle.inquiry.proofs.Longer.{ran_longer, opened_longer}
use Rattle.inquiry.proofs.Runs.{Counts, running_is, swept_once, ran_none, ran_more, ran_stopped, ran_keeps}

-- what every sweep keeps
pub record Sound {S : Type 0} (m : Meaning S) (p : Position S) : Type 0 where
  pub possible : p.standing ≡ Possible → Loop m
  pub impossible : p.standing ≡ Impossible → Loop m → ⊥
  pub outer_is : Represents m p.outer (Y m p.round)
  pub inner_is : Represents m p.inner (X m p.round p.sweep)
  pub apart : Apart m.below p.inner
  pub fits : length p.inner ≤ p.places
  pub room : m.tops ≤ p.places
  pub counted : Sum m p.round p.sweep p.count
  pub goes : going p.standing ≡ true → Going m p.round p.sweep p.count
  pub spent : p.standing ≡ Spent → (p.count ≡ p.limit) × (p.limit < K m * (K m + 1))
  pub crowded : p.standing ≡ Full → Crowded m p.places (X m p.round (suc p.sweep))

abbrev pub Direct : {S : Type 0} → Meaning S → Position S → Type 0
Direct m p = ran m p.count (opened m p.limit p.places) ≡ before_full p p.standing

module _ {S : Type 0} (m : Meaning S) (l : Lawful m) where
  -- the same held states and counts at another standing
  stands_sound : (v : Standing) (q : Position S) → Sound m q → (v ≡ Possible → Loop m) → (v ≡ Impossible → Loop m → ⊥) → (going v ≡ true → Going m q.round q.sweep q.count) → (v ≡ Spent → (q.count ≡ q.limit) × (q.limit < K m * (K m + 1))) → (v ≡ Full → Crowded m q.places (X m q.round (suc q.sweep))) → Sound m (stands v q)
  stands_sound v q s possible impossible goes spent crowded = record {
    possible = possible;
    impossible = impossible;
    outer_is = s.outer_is;
    inner_is = s.inner_is;
    apart = s.apart;
    fits = s.fits;
    room = s.room;
    counted = s.counted;
    goes = goes;
    spent = spent;
    crowded = crowded;
  }

  -- a running position at the limit is spent below the bound
  limited_sound : (q : Position S) → Sound m q → (running q.standing ≡ true → Going m q.round q.sweep q.count) → Sound m (limited q)
  limited_sound q s g =
      cond_both (running q.standing && eqb q.count q.limit) (stands Spent q) q (Sound m)
      (λ e. let p = and_parts (running q.standing) (eqb q.count q.limit) e in
      stands_sound Spent q s (λ z. cc) (λ z. cc) (λ z. cc) (λ z. (eqb-true q.count q.limit p.1, omega (arith, eqb-true q.count q.limit p.1, going_below m l q.round q.sweep q.count (g p.0)))) (λ z. cc))
      (λ e. s)

  module _ (p : Position S) (runs : p.standing ≡ Running) (s : Sound m p) where
    g : Going m p.round p.sweep p.count
    g = s.goes (ap going runs)

    full_sound : Crowded m p.places (X m p.round (suc p.sweep)) → Sound m (stands Full p)
    full_sound c = stands_sound Full p s (λ z. cc) (λ z. cc) (λ z. g) (λ z. cc) (λ z. c)

    gained_sound : (t : Table S) → t.changed ≡ true → Sweeps m p.places p.round p.sweep p.inner t → Sound m (gained p t.held)
    gained_sound t e w =
        let more = going_gained m p.round p.sweep p.count g (w.gains e) in
        record {
          possible = λ z. cc;
          impossible = λ z. cc;
          outer_is = s.outer_is;
          inner_is = w.is;
          apart = w.apart;
          fits = w.fits;
          room = s.room;
          counted = going_sum m p.round (suc p.sweep) (suc p.count) more;
          goes = λ z. more;
          spent = λ z. cc;
          crowded = λ z. cc;
        }

    ended_sound : (t : Table S) → t.changed ≡ false → Sweeps m p.places p.round p.sweep p.inner t → Sound m (limited (ended m p))
    ended_sound t e w =
        cond_both (covered m.below m.start p.inner) (cond (all_covered m.below p.outer p.inner) Possible Running) Impossible (λ v. Sound m (limited (stands v (ended m p))))
        (λ here. cond_both (all_covered m.below p.outer p.inner) Possible Running (λ v. Sound m (limited (stands v (ended m p))))
        (λ all. stopped Possible refl (λ z. a_loop m l p.round p.outer p.inner s.outer_is outer here all) (λ z. cc) (λ z. cc))
        (λ lost. let more = going_round m p.round p.sweep p.count g stays (loses m l p.round p.outer p.inner s.outer_is outer lost) in
        limited_sound (stands Running (ended m p)) (base Running (λ z. cc) (λ z. cc) (λ z. more) (λ z. cc) (λ z. cc)) (λ z. more)))
        (λ gone. stopped Impossible refl (λ z. cc) (λ z. no_loop m l (suc p.round) p.inner outer gone) (λ z. cc))
      where
        stays : Same (X m p.round (suc p.sweep)) (X m p.round p.sweep)
        stays = (w.same e).1

        outer : Represents m p.inner (Y m (suc p.round))
        outer = round_ends m l p.round p.sweep p.inner s.inner_is stays

        base : (v : Standing) → (v ≡ Possible → Loop m) → (v ≡ Impossible → Loop m → ⊥) → (going v ≡ true → Going m (suc p.round) 0 (suc p.count)) → (v ≡ Spent → ⊥) → (v ≡ Full → ⊥) → Sound m (stands v (ended m p))
        base v po im go sp fu = record {
          possible = po;
          impossible = im;
          outer_is = outer;
          inner_is = x_empty m l (suc p.round);
          apart = tt;
          fits = omega arith;
          room = s.room;
          counted = ended_sum m p.round p.sweep p.count g stays;
          goes = go;
          spent = λ z. absurd (sp z);
          crowded = λ z. absurd (fu z);
        }

        stopped : (v : Standing) → going v ≡ false → (v ≡ Possible → Loop m) → (v ≡ Impossible → Loop m → ⊥) → (v ≡ Spent → ⊥) → Sound m (limited (stands v (ended m p)))
        stopped v no' po im sp = limited_sound (stands v (ended m p)) (base v po im (λ z. absurd (both_ways (going v) no' z)) sp (λ z. both_ways (going v) no' (ap going z))) (λ z. absurd (both_ways (going v) no' (ap going (running_is v z))))

    swept_sound : Sound m (swept m p)
    swept_sound = go (brought m p) (sweeps m l p.round p.sweep p.inner p.outer s.inner_is s.outer_is p.places s.apart s.fits)
      where
        go : (o : Option (Table S)) → Brought m p.places p.round p.sweep p.inner o → Sound m (after m p o)
        go (Some t) w =
            cond_both t.changed (gained p t.held) (ended m p) (λ q. Sound m (limited q)) (λ e. limited_sound (gained p t.held) (gained_sound t e w) (λ z. going_gained m p.round p.sweep p.count g (w.gains e))) (λ e. ended_sound t e w)
        go None w = full_sound w

  pub opened_sound : (limit places : ℕ) → m.tops ≤ places → Sound m (opened m limit places)
  opened_sound limit places room = go (filled m.below places (all_tops m) (unchanged [])) (opens m l places room)
    where
      go : (o : Option (Table S)) → Opened m places o → Sound m (record { standing = Running; round = 0; sweep = 0; count = 0; limit = limit; places = places; outer = held_of o; inner = [] })
      go (Some t) w = record {
        possible = λ z. cc;
        impossible = λ z. cc;
        outer_is = w.is;
        inner_is = x_empty m l 0;
        apart = tt;
        fits = omega arith;
        room = room;
        counted = going_sum m 0 0 0 (going_opened m);
        goes = λ z. going_opened m;
        spent = λ z. cc;
        crowded = λ z. cc;
      }
      go None w = absurd w

  pub widened_sound : (p : Position S) (n : ℕ) → p.standing ≡ Full → p.places < n → Sound m p → Sound m (widened n p)
  widened_sound p n f lt s = record {
    possible = λ z. cc;
    impossible = λ z. cc;
    outer_is = s.outer_is;
    inner_is = s.inner_is;
    apart = s.apart;
    fits = omega (arith, s.fits);
    room = omega (arith, s.room);
    counted = s.counted;
    goes = λ z. s.goes (ap going f);
    spent = λ z. cc;
    crowded = λ z. cc;
  }

  pub course_sound : (p : Position S) → Course m p → Sound m p
  course_sound p (by_open limit places a b c room) = opened_sound limit places room
  course_sound p (by_run q course runs budget) = ran_keeps m (Sound m) (λ r e s. swept_sound r (running_is r.standing e) s) budget q (course_sound q course)
  course_sound p (by_widen q course f n lt le) = widened_sound q n f lt (course_sound q course)

  stands_is : (p : Position S) (s : Standing) → p.standing ≡ s → stands s p ≡ p
  stands_is p s e = sym (ap (λ v. stands v p) e)

  before_is : (p : Position S) (s : Standing) → (s ≡ Full → ⊥) → before_full p s ≡ p
  before_is p Running h = refl
  before_is p Possible h = refl
  before_is p Impossible h = refl
  before_is p Full h = absurd (h refl)
  before_is p Spent h = refl

  -- one sweep more at the end of a run
  ran_last : (c : ℕ) (o p : Position S) → ran m c o ≡ p → running p.standing ≡ true → ran m (suc c) o ≡ swept m p
  ran_last zero o p e r =
      let is : o ≡ p = sym (ran_none m o) ∙ e in
      ran_more m zero o (ap (λ q. running q.standing) is ∙ r) ∙ ran_none m (swept m o) ∙ ap (swept m) is
  ran_last (suc c) o p e r =
      ⊎_elim (λ t. ran_more m (suc c) o t ∙ ran_last c (swept m o) p (sym (ran_more m c o t) ∙ e) r)
      (λ f. absurd (both_ways (running p.standing) (sym (ap (λ q. running q.standing) (sym (ran_stopped m (suc c) o f) ∙ e)) ∙ f) r)) (cases_Bool (running o.standing))

  swept_direct : (p : Position S) → p.standing ≡ Running → Direct m p → Direct m (swept m p)
  swept_direct p runs d = ⊎_elim (λ f. subst (Direct m) (sym f) (here ∙ sym (stands_is p Running runs))) counts (swept_once m p)
    where
      here : ran m p.count (opened m p.limit p.places) ≡ p
      here = d ∙ before_is p p.standing (λ z. cc)

      counts : Counts p (swept m p) → Direct m (swept m p)
      counts c =
          ap (λ n. ran m n (opened m (swept m p).limit (swept m p).places)) c.count ∙ ap (λ n. ran m (suc p.count) (opened m n (swept m p).places)) c.limit ∙ ap (λ n. ran m (suc p.count) (opened m p.limit n)) c.places
          ∙ ran_last p.count (opened m p.limit p.places) p here (ap running runs) ∙ sym (before_is (swept m p) (swept m p).standing c.not_full)

  widened_direct : (p : Position S) (n : ℕ) → p.standing ≡ Full → p.places < n → m.tops ≤ p.places → Direct m p → Direct m (widened n p)
  widened_direct p n f lt room d = go (filled m.below p.places (all_tops m) (unchanged [])) refl (opens m l p.places room)
    where
      here : ran m p.count (opened m p.limit p.places) ≡ stands Running p
      here = d ∙ ap (before_full p) f

      go : (r : Option (Table S)) → filled m.below p.places (all_tops m) (unchanged []) ≡ r → Opened m p.places r → ran m p.count (opened m p.limit n) ≡ widened n p
      go (Some u) e w =
          ap (ran m p.count) (opened_longer m n p.limit p.places u (omega arith) e) ∙ ran_longer m n p.count (opened m p.limit p.places) (omega arith) (λ z. cc (ap (λ q. q.standing) here)) ∙ ap (in_places n) here
      go None e w = absurd w

  course_direct : (p : Position S) → Course m p → Direct m p
  course_direct p (by_open limit places a b c room) = ran_none m (opened m limit places)
  course_direct p (by_run q course runs budget) = ran_keeps m (Direct m) (λ r e d. swept_direct r (running_is r.standing e) d) budget q (course_direct q course)
  course_direct p (by_widen q course f n lt le) = widened_direct q n f lt (course_sound q course).room (course_direct q course)

  pub promised : (p : Position S) → Course m p → Promise m p
  promised p course =
      let s = course_sound p course in
      record { possible = s.possible; impossible = s.impossible; outer_is = s.outer_is; inner_is = s.inner_is; counted = s.counted; spent = s.spent; crowded = s.crowded; direct = course_direct p course }
