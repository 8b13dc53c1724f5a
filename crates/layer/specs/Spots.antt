-- The numbers of tops and slots: by location, then phase, then the number below. Assumes nothing.
use Rattle.std.specs.Prelude.{ℕ, ◌*◌, ◌/◌, ◌%◌, cond, ◌&&◌, Some, None, Option, ◌==◌, nat_le, nat_lt}
use Rattle.layer.specs.declared.layered.Phase.TheVariants.{Above, Below}
use Rattle.layer.specs.declared.spot.Spot.{Spot}

-- the number is (location × 2 + phase) × count + inner
abbrev pub spot_of : ℕ → ℕ → Spot
spot_of count i = record { location = i / count / 2; phase = cond (i / count % 2 == 0) Above Below; inner = i % count }

-- nothing past the last location, or where nothing is below
abbrev pub spot_at : ℕ → ℕ → ℕ → Option Spot
spot_at locations count i = cond (nat_lt 0 count && nat_lt (i / count / 2) locations) (Some (spot_of count i)) None

-- how many numbers there are, if they are few enough
abbrev pub count_of : ℕ → ℕ → Option ℕ
count_of locations count = cond (nat_le (2 * locations * count) 65536) (Some (2 * locations * count)) None
