-- What the flat model of a text lists is what the text lists.
use Rattle.std.proofs.Common.{◌≡◌, ◌∙◌, ap, refl, ℕ, List, [], ◌∷◌, map, length}
use Rattle.sm_flat.specs.declared.form.Constraint.{Constraint}
use Rattle.sm_flat.specs.declared.form.Kind.{Kind}
use Rattle.sm_flat.specs.declared.tags.Tags.{Tags}
use Rattle.sm_flat.specs.Forms.{kind_of}
use Rattle.sm_flat.specs.Models.{FlatModel}
use Rattle.sm_data.specs.Documents.{Entry}
use Rattle.sm_syntax.specs.Trees.{Tree, tree}
use Rattle.sm_meaning.specs.Expansions.{Post}
use Rattle.sm_meaning.specs.Models.{demand_kind, listing_of}
use Rattle.sm_flattening.specs.Flattening.{constraint_of, constraints_of}
use Rattle.sm_flattening.proofs.Counts.{kind_same}
use Rattle.sm_expand.specs.Expanding.{IsFlatOf}

kinds_of : (n : ℕ) (ps : List Post) → map (λ (c : Constraint). kind_of c.form) (constraints_of n ps) ≡ map (λ (p : Post). demand_kind p.demand) ps
kinds_of n [] = refl
kinds_of n (p ∷ ps) = ap (λ (k : Kind). k ∷ map (λ (c : Constraint). kind_of c.form) (constraints_of n ps)) (kind_same n p.demand) ∙ ap (λ (ks : List Kind). demand_kind p.demand ∷ ks) (kinds_of n ps)

tags_in : (n : ℕ) (ps : List Post) → map (λ (c : Constraint). c.tags) (constraints_of n ps) ≡ map (λ (p : Post). p.tags) ps
tags_in n [] = refl
tags_in n (p ∷ ps) = ap (λ (ts : List Tags). p.tags ∷ ts) (tags_in n ps)

pub lists_variables : (t : Tree) (tables : List Entry) (m : FlatModel) → IsFlatOf t tables m → m.vars ≡ (listing_of t tables).variables
lists_variables (tree p items goal) tables m h = h.parts.variables

pub lists_kinds : (t : Tree) (tables : List Entry) (m : FlatModel) → IsFlatOf t tables m → map (λ (c : Constraint). kind_of c.form) m.constraints ≡ (listing_of t tables).kinds
lists_kinds (tree p items goal) tables m h = ap (map (λ (c : Constraint). kind_of c.form)) h.parts.constraints ∙ kinds_of (length m.vars) _

pub lists_tags : (t : Tree) (tables : List Entry) (m : FlatModel) → IsFlatOf t tables m → map (λ (c : Constraint). c.tags) m.constraints ≡ (listing_of t tables).tags
lists_tags (tree p items goal) tables m h = ap (map (λ (c : Constraint). c.tags)) h.parts.constraints ∙ tags_in (length m.vars) _
