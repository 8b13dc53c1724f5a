-- How an inquiry with 512 places and limit 100,000 ends on a graph, and what that says of it. Assumes nothing.
use Rattle.std.specs.Prelude.{◌≡◌, ℕ, false}
use Rattle.graph.specs.Meaning.{Meaning}
use Rattle.graph.specs.Walks.{Loop}
use Rattle.inquiry.specs.declared.standing.Standing.{Standing}
use Rattle.inquiry.specs.declared.standing.Standing.TheVariants.{Possible, Impossible}
use Rattle.inquiry.specs.Course.{Promise}
use Rattle.inquiry.specs.Position.{Position, opened, ran}
use Rattle.inquiry.specs.Standing.{running}

-- opened, and run with the largest budget
abbrev pub concluded : {S : Type 0} → Meaning S → Position S
concluded m = ran m 4294967295 (opened m 100000 512)

pub record Concludes {S : Type 0} (m : Meaning S) (standing : Standing) (round count : ℕ) : Type 0 where
  pub standing_is : standing ≡ (concluded m).standing
  pub round_is : round ≡ (concluded m).round
  pub count_is : count ≡ (concluded m).count
  pub ends : running standing ≡ false
  pub possible : standing ≡ Possible → Loop m
  pub impossible : standing ≡ Impossible → Loop m → ⊥
  pub promise : Promise m (concluded m)
