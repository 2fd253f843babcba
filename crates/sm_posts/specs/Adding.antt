-- What a constraint comes to at one tuple.
use Rattle.std.specs.Prelude.{◌≡◌, ℕ}
use Rattle.sm_meaning.specs.Expansions.{Post, Expansion}
use Rattle.sm_flattening.specs.Regularity.{HasAffineRow}
use Rattle.sm_drafts.specs.declared.adding.Added.{Added}
use Rattle.sm_drafts.specs.Drafts.{IsDraftOf}
use Rattle.sm_drafts.specs.TagDrafts.{tags_of}
use Rattle.sm_drafts.specs.Sums.{IsAdded}
use Rattle.sm_posts.specs.declared.adding.Drafted.{Drafted}

-- the demand and the tags of a post on n variables
pub record IsDrafted (n : ℕ) (p : Post) (d : Drafted) : Type 0 where
  pub demand : IsDraftOf n p.demand d.draft
  pub tags : p.tags ≡ tags_of d.tags

-- the flat constraint of a post on n variables, whose row is affine, behind those of the expansion
pub record IsAddedAt (n : ℕ) (e : Expansion) (p : Post) (a : Added) : Type 0 where
  pub added : IsAdded n e p a
  pub affine : HasAffineRow n p.demand
