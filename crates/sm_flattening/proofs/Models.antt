-- Values solve a flat model exactly where they meet the expansion that it was made of.
use Rattle.std.proofs.Common.{◌≡◌, ◌∙◌, ap, refl, sym, subst, ◌↔◌, ℕ, ◌<◌, arith, List, [], ◌∷◌, length, get_or, Some, inl, inr}
use Rattle.std.specs.Prelude.{ℤ, ◌≢◌, All, slice_get}
use Rattle.std.proofs.lemmas.List.{get_or-map, length-map}
use Rattle.std.proofs.lemmas.List.Elements.{All-same}
use Rattle.std.proofs.lemmas.Option.{slice_get-get_or, slice_get_within, get_or_from_slice_get}
use Rattle.sm_kinds.specs.declared.literal.Literal.{Literal}
use Rattle.sm_kinds.specs.declared.var.Var.{Var}
use Rattle.sm_kinds.specs.declared.var.VarKind.{VarKind}
use Rattle.sm_kinds.specs.declared.var.VarKind.TheVariants.{Set, Int, Real}
use Rattle.sm_kinds.specs.Points.{IsWhole}
use Rattle.sm_kinds.specs.Vars.{LiesIn, IsOneOf, IsMultiple, IsDiscrete, var_at, no_var}
use Rattle.sm_flat.specs.declared.form.Constraint.{Constraint}
use Rattle.sm_flat.specs.declared.form.Form.{Form}
use Rattle.sm_flat.specs.Forms.{Sat}
use Rattle.sm_flat.specs.Models.{FlatModel}
use Rattle.sm_flat.specs.Solutions.{Solves, HasNoSolution}
use Rattle.sm_data.specs.Documents.{Entry}
use Rattle.sm_syntax.specs.Trees.{Tree}
use Rattle.sm_forms.specs.Meanings.{Values}
use Rattle.sm_meaning.specs.Demands.{Demand, row, formula, row_when, kind, Holds, point_of}
use Rattle.sm_meaning.specs.Expansions.{Post, Declared, Expansion, vars_of}
use Rattle.sm_meaning.specs.Models.{Means, expansion_of}
use Rattle.sm_flattening.specs.Flattening.{form_of, constraint_of, constraints_of, IsFlattened, Meets}
use Rattle.sm_flattening.specs.Regularity.{HasDiscreteLiterals, HasWholeLiterals, AreRegular}
use Rattle.sm_flattening.proofs.Constraints.{demand_holds, each_literal}
use Rattle.sm_flattening.proofs.Lists.{read_all, all_map}

-- ---- values of domains

one_of_whole : (n d : ℤ) (vs : List ℤ) → IsOneOf n d vs → IsMultiple n d
one_of_whole n d [] h = absurd h
one_of_whole n d (v ∷ vs) (inl e) = (v, e)
one_of_whole n d (v ∷ vs) (inr h) = one_of_whole n d vs h

-- a value of a variable that isn't real is whole
lies_whole : (k : VarKind) (vs : List ℤ) (n d : ℤ) → k ≢ Real → LiesIn k vs n d → IsMultiple n d
lies_whole Set vs n d other h = one_of_whole n d vs h
lies_whole Int vs n d other h = h.1
lies_whole Real vs n d other h = absurd (other refl)

pub record AllLie (vars : List Var) (a : Values) : Type 0 where
  pub at : (i : ℕ) → i < length vars → LiesIn (var_at vars i).kind (var_at vars i).values (a.numerator i) a.denominator

-- so each variable of a formula has a whole value
literals_whole : (vars : List Var) (d : Demand) (a : Values) → AllLie vars a → HasDiscreteLiterals vars d → HasWholeLiterals d a
literals_whole vars (row c g) a lie h = tt
literals_whole vars (formula q) a lie h =
    each_literal (λ (l : Literal). IsDiscrete vars l.var) (λ (l : Literal). IsWhole (point_of a) l.var)
    (λ l discrete. lies_whole (var_at vars l.var).kind (var_at vars l.var).values (a.numerator l.var) a.denominator discrete.kind (lie.at l.var discrete.known)) q h
literals_whole vars (row_when ls c g) a lie h = tt
literals_whole vars (kind f) a lie h = tt

-- ---- the variables of the expansion and of the model

abbrev no_declared : Declared
no_declared = record { place = record { line = 0; column = 0 }; var = no_var }

abbrev var_of : Declared → Var
var_of d = d.var

module _ (e : Expansion) (a : Values) where
  -- the fraction of variable i lies in the domain of this one
  abbrev LiesAt : ℕ → Var → Type 0
  LiesAt i v = LiesIn v.kind v.values (a.numerator i) a.denominator

  declared_lie : AllLie (vars_of e) a → (i : ℕ) (d : Declared) → slice_get e.variables i ≡ Some d → LiesAt i d.var
  declared_lie lie i d is =
      let within = slice_get_within e.variables i d is in
      let image = get_or-map var_of e.variables i d no_var within in
      let element = get_or_from_slice_get e.variables i d d is in
      subst (LiesAt i) (image ∙ ap var_of element) (lie.at i (omega (arith, length-map e.variables var_of)))

  all_lie : ((i : ℕ) (d : Declared) → slice_get e.variables i ≡ Some d → LiesAt i d.var) → AllLie (vars_of e) a
  all_lie fits = record {
    at = λ i lt.
        let within : i < length e.variables = omega (arith, length-map e.variables var_of) in
        let image = get_or-map var_of e.variables i no_declared no_var within in
        subst (LiesAt i) (sym image) (fits i (get_or e.variables i no_declared) (slice_get-get_or e.variables i no_declared within));
  }

-- ---- the posts and the constraints

module _ (vars : List Var) (a : Values) where
  abbrev form_in : Post → Form
  form_in p = form_of (length vars) p.demand

  -- where all values lie in their domains, the forms of posts are satisfied exactly where these hold
  posts_hold : (ps : List Post) → AreRegular vars ps → AllLie vars a → All (λ (p : Post). Sat (form_in p) (point_of a)) ps ↔ All (λ (p : Post). Holds p.demand a) ps
  posts_hold ps regular lie = ((λ h k d lt. (same k d lt).0 (h k d lt)), (λ h k d lt. (same k d lt).1 (h k d lt)))
    where
      same : (k : ℕ) (d : Post) → k < length ps → Sat (form_in (get_or ps k d)) (point_of a) ↔ Holds (get_or ps k d).demand a
      same k d lt = let r = regular k d lt in let demand = (get_or ps k d).demand in
          demand_holds (length vars) demand a r.affine (literals_whole vars demand a lie r.discrete)

-- Both sides say that values lie in their domains. Then the constraints, read one by one, are those of the posts, and each of
-- these is satisfied exactly where its post holds.
pub solves_meets : (e : Expansion) (m : FlatModel) (a : Values) → IsFlattened e m.vars m.constraints → Solves m (point_of a) ↔ Meets e a
solves_meets e m a flat = (to, from)
  where
    satisfied : ((k : ℕ) (c : Constraint) → slice_get m.constraints k ≡ Some c → Sat c.form (point_of a)) ↔ All (λ (p : Post). Sat (form_in m.vars a p) (point_of a)) e.posts
    satisfied =
        let HasSat = λ (c : Constraint). Sat c.form (point_of a) in
        let posted = constraints_of (length m.vars) e.posts in
        let read = read_all HasSat m.constraints in
        let images = all_map HasSat (constraint_of (length m.vars)) e.posts in (
          (λ h. images.1 (All-same HasSat posted m.constraints (sym flat.constraints) (read.0 h))),
          (λ h. read.1 (All-same HasSat m.constraints posted flat.constraints (images.0 h))),
        )

    to : Solves m (point_of a) → Meets e a
    to s =
        let lie : AllLie m.vars a = record { at = s.fits.lies } in
        record {
          fits = declared_lie e a (subst (λ vars. AllLie vars a) flat.variables lie);
          holds = (posts_hold m.vars a e.posts flat.regular lie).0 (satisfied.0 s.satisfies);
        }

    from : Meets e a → Solves m (point_of a)
    from h =
        let lie = subst (λ vars. AllLie vars a) (sym flat.variables) (all_lie e a h.fits) in
        record {
          fits = record { positive = a.positive; lies = lie.at };
          satisfies = satisfied.1 ((posts_hold m.vars a e.posts flat.regular lie).1 h.holds);
        }

-- ---- texts

module _ (t : Tree) (tables : List Entry) (m : FlatModel) (flat : IsFlattened (expansion_of t tables) m.vars m.constraints) where
  -- a text means what its expansion is met by
  pub solves_means : (a : Values) → Solves m (point_of a) ↔ Means t tables a
  solves_means a =
      let same = solves_meets (expansion_of t tables) m a flat in
      ((λ s. let h = same.0 s in record { fits = h.fits; holds = h.holds }), (λ h. same.1 (record { fits = h.fits; holds = h.holds })))

  -- each point that solves the model is that of some values
  pub unsolved_means : HasNoSolution m ↔ ((a : Values) → Means t tables a → ⊥)
  unsolved_means = (
    (λ none a h. none (point_of a) ((solves_means a).1 h)),
    (λ none p s.
        let a : Values = record { denominator = p.denominator; numerator = p.numerator; positive = s.fits.positive } in
        none a ((solves_means a).0 s)),
  )
