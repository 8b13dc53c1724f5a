-- Tables of a length. Assumes nothing.
use Rattle.std.specs.Prelude.{◌≡◌, ℕ, vec_len}
use Rattle.tables.specs.declared.Tables.{Tables}

pub record Long {S : Type 0} (n : ℕ) (t : Tables S) : Type 0 where
  pub outer : vec_len t.outer ≡ n
  pub inner : vec_len t.inner ≡ n
  pub work : vec_len t.work ≡ n
