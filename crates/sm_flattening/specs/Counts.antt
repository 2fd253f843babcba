-- What limits count of the posts of an expansion.
use Rattle.std.specs.Prelude.{◌≡◌, length}
use Rattle.sm_meaning.specs.Scopes.{count_of}
use Rattle.sm_meaning.specs.Expansions.{Expansion, scope_of}
use Rattle.sm_meaning.specs.Limits.{total_of, real_rows}

-- both expansions have as many posts, of the same size, and with as many rows of real variables
pub record HaveSameCounts (e f : Expansion) : Type 0 where
  pub posts : length e.posts ≡ length f.posts
  pub total : total_of (count_of (scope_of e)) e.posts ≡ total_of (count_of (scope_of f)) f.posts
  pub real_rows : real_rows (scope_of e) e.posts ≡ real_rows (scope_of f) f.posts
