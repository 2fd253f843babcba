-- What a front of a text has come to: names, variables and constraints.
use Rattle.std.specs.Prelude.{ℕ, List, [], ◌∷◌, ◌++◌, map}
use Rattle.sm_kinds.specs.declared.var.Var.{Var}
use Rattle.sm_flat.specs.declared.tags.Tags.{Tags}
use Rattle.sm_data.specs.Documents.{Entry}
use Rattle.sm_syntax.specs.declared.place.Place.{Place}
use Rattle.sm_syntax.specs.Trees.{Constraint, Tag}
use Rattle.sm_meaning.specs.Scopes as thing
use Rattle.sm_meaning.specs.Scopes.{Names, Thing, Tuple, Scope}
use Rattle.sm_meaning.specs.Demands.{Demand, demand_of}
use Rattle.sm_meaning.specs.Tags.{tags_at}

-- a constraint at one tuple, with its tags
pub record Post : Type 0 where
  pub demand : Demand
  pub tags : Tags

-- a variable, and where its declaration has its name
pub record Declared : Type 0 where
  pub place : Place
  pub var : Var

pub record Expansion : Type 0 where
  pub names : Names
  pub variables : List Declared
  pub posts : List Post

-- the tables are known before the text begins
abbrev pub beginning : List Entry → Expansion
beginning tables = record { names = map (λ (e : Entry). (e.0, thing.table e.1)) tables; variables = []; posts = [] }

abbrev pub vars_of : Expansion → List Var
vars_of e = map (λ (d : Declared). d.var) e.variables

abbrev pub scope_of : Expansion → Scope
scope_of e = record { names = e.names; kinds = map (λ (v : Var). v.kind) (vars_of e) }

abbrev pub with_name : Expansion → List ℕ → Thing → Expansion
with_name e name t = record e { names = e.names ++ (name, t) ∷ [] }

abbrev pub with_posts : Expansion → List Post → Expansion
with_posts e ps = record e { posts = e.posts ++ ps }

-- the constraint at a tuple
abbrev pub post_at : Constraint → List Tag → Scope → Tuple → Post
post_at c ts s b = record { demand = demand_of c s b; tags = tags_at s b ts }
