-- Whether a variable is torn, constraint after constraint and then variable after variable.
use Rattle.std.proofs.Common.{◌≡◌, ◌∙◌, ap, sym, refl, subst, arith, ℕ, ◌+◌, suc, ◌<◌, List, [], ◌∷◌, map, length, drop, get_or, Bool, true, false}
use Rattle.std.specs.Prelude.{not, ◌&&◌, ◌||◌, is_some, Option, Some, None}
use Rattle.std.specs.List.{list_any, list_all}
use Rattle.std.proofs.Math.ListN.{get_or-map}
use Rattle.std.proofs.lemmas.List.{length-map, get_or_default}
use Rattle.sm_kinds.specs.declared.var.Var.{Var}
use Rattle.sm_kinds.specs.Vars.{is_real_kind, no_var}
use Rattle.sm_flat.specs.declared.form.Constraint.{Constraint}
use Rattle.sm_syntax.specs.declared.place.Place.{Place}
use Rattle.sm_meaning.specs.declared.refusal.Wrong.TheVariants.{Benders}
use Rattle.sm_meaning.specs.declared.refusal.ExpandRefusal.TheVariants.{Meaning}
use Rattle.sm_meaning.specs.Refusals.{wrong_if}
use Rattle.sm_meaning.specs.Trials.{reached, stopped, tried, ◌▸◌}
use Rattle.sm_meaning.specs.Expansions.{Post, Declared, Expansion}
use Rattle.sm_meaning.specs.Models.{same_sub, is_torn, subs_of, benders_tried}
use Rattle.sm_drafts.proofs.Parts.{split_at}
use Rattle.sm_declarations.specs.declared.making.Making.{Making}
use Rattle.sm_declarations.specs.Making.{IsMakingOf}
use Rattle.sm_expand.specs.Subproblems.{stands_in_form, subs_in}
use Rattle.sm_expand.proofs.Standing.{subs_skip, subs_take, subs_same}

-- ---- one variable

-- with the subproblem of the first constraint that has the variable, if there was one
abbrev pub torn_behind : Option (Option ℕ) → List (Option ℕ) → Bool
torn_behind None gs = is_torn gs
torn_behind (Some g) gs = is_torn (g ∷ gs)

pub torn_skip : (i : ℕ) (first : Option (Option ℕ)) (c : Constraint) (cs : List Constraint) → stands_in_form i c.form ≡ false → torn_behind first (subs_in i (c ∷ cs)) ≡ torn_behind first (subs_in i cs)
torn_skip i first c cs h = ap (torn_behind first) (subs_skip i c cs h)

pub torn_begins : (i : ℕ) (c : Constraint) (cs : List Constraint) → stands_in_form i c.form ≡ true → torn_behind None (subs_in i (c ∷ cs)) ≡ torn_behind (Some c.tags.sub) (subs_in i cs)
torn_begins i c cs h = ap is_torn (subs_take i c cs h)

pub torn_same : (i : ℕ) (g : Option ℕ) (c : Constraint) (cs : List Constraint) → stands_in_form i c.form ≡ true → same_sub g c.tags.sub ≡ true
    → torn_behind (Some g) (subs_in i (c ∷ cs)) ≡ torn_behind (Some g) (subs_in i cs)
torn_same i g c cs h same = ap (torn_behind (Some g)) (subs_take i c cs h) ∙ ap (λ (b : Bool). not (b && list_all (same_sub g) (subs_in i cs))) same

pub torn_found : (i : ℕ) (g : Option ℕ) (c : Constraint) (cs : List Constraint) → stands_in_form i c.form ≡ true → same_sub g c.tags.sub ≡ false
    → torn_behind (Some g) (subs_in i (c ∷ cs)) ≡ true
torn_found i g c cs h other = ap (torn_behind (Some g)) (subs_take i c cs h) ∙ ap (λ (b : Bool). not (b && list_all (same_sub g) (subs_in i cs))) other

pub torn_none : (first : Option (Option ℕ)) → torn_behind first [] ≡ false
torn_none None = refl
torn_none (Some g) = refl

-- ---- no subproblem at all

no_sub : (g : Option ℕ) → is_some g ≡ false → g ≡ None
no_sub None h = refl
no_sub (Some x) h = absurd (cc)

or_both : (x y : Bool) → (x || y) ≡ false → (x ≡ false) × (y ≡ false)
or_both true y h = absurd (cc)
or_both false y h = (refl, h)

abbrev pub some_sub : List Constraint → Bool
some_sub cs = list_any (λ (c : Constraint). is_some c.tags.sub) cs

all_none : (i : ℕ) (cs : List Constraint) → some_sub cs ≡ false → list_all (same_sub None) (subs_in i cs) ≡ true
all_none i [] h = refl
all_none i (c ∷ cs) h = by_case (all_none i cs) (stands_in_form i c.form) refl
  where
    none : (is_some c.tags.sub ≡ false) × (some_sub cs ≡ false)
    none = or_both (is_some c.tags.sub) (some_sub cs) h

    by_case : (some_sub cs ≡ false → list_all (same_sub None) (subs_in i cs) ≡ true) → (b : Bool) → stands_in_form i c.form ≡ b → list_all (same_sub None) (subs_in i (c ∷ cs)) ≡ true
    by_case later true e = ap (list_all (same_sub None)) (subs_take i c cs e) ∙ ap (λ (g : Option ℕ). same_sub None g && list_all (same_sub None) (subs_in i cs)) (no_sub c.tags.sub none.0) ∙ later none.1
    by_case later false e = ap (list_all (same_sub None)) (subs_skip i c cs e) ∙ later none.1

pub whole_without : (i : ℕ) (cs : List Constraint) → some_sub cs ≡ false → is_torn (subs_in i cs) ≡ false
whole_without i [] h = refl
whole_without i (c ∷ cs) h = by_case (whole_without i cs) (stands_in_form i c.form) refl
  where
    none : (is_some c.tags.sub ≡ false) × (some_sub cs ≡ false)
    none = or_both (is_some c.tags.sub) (some_sub cs) h

    by_case : (some_sub cs ≡ false → is_torn (subs_in i cs) ≡ false) → (b : Bool) → stands_in_form i c.form ≡ b → is_torn (subs_in i (c ∷ cs)) ≡ false
    by_case later true e =
        ap is_torn (subs_take i c cs e)
        ∙ ap (λ (g : Option ℕ). not (list_all (same_sub g) (subs_in i cs))) (no_sub c.tags.sub none.0)
        ∙ ap not (all_none i cs none.1)
    by_case later false e = ap is_torn (subs_skip i c cs e) ∙ later none.1

-- ---- one variable after another

module _ (ps : List Post) (i : ℕ) (d : Declared) (ds : List Declared) (count : ℕ) where
  abbrev is_wrong : Bool
  is_wrong = is_real_kind d.var.kind && is_torn (subs_of i ps)

  pub benders_pass : is_wrong ≡ false → benders_tried ps i (d ∷ ds) count ≡ benders_tried ps (suc i) ds count
  benders_pass h = ap (λ (b : Bool). (tried (wrong_if b d.place Benders) ▸ benders_tried ps (suc i) ds) count) h

  pub benders_stop : is_wrong ≡ true → benders_tried ps i (d ∷ ds) count ≡ stopped (Meaning d.place.line d.place.column Benders)
  benders_stop h = ap (λ (b : Bool). (tried (wrong_if b d.place Benders) ▸ benders_tried ps (suc i) ds) count) h

pub and_false : (x y : Bool) → y ≡ false → (x && y) ≡ false
and_false true y h = h
and_false false y h = refl

pub benders_none : (ps : List Post) (i : ℕ) (ds : List Declared) (count : ℕ) → ((k : ℕ) → k < i + length ds → is_torn (subs_of k ps) ≡ false) → benders_tried ps i ds count ≡ reached count
benders_none ps i [] count h = refl
benders_none ps i (d ∷ ds) count h =
    benders_pass ps i d ds count (and_false (is_real_kind d.var.kind) (is_torn (subs_of i ps)) (h i (omega arith)))
    ∙ benders_none ps (suc i) ds count (λ k lt. h k (omega arith))

-- ---- the variables in the making

abbrev no_place : Place
no_place = record { line = 0; column = 0 }

abbrev no_declared : Declared
no_declared = record { place = no_place; var = no_var }

-- what is declared behind i others, with its variable and its place in the making
pub record DeclaredAt (e : Expansion) (m : Making) (i : ℕ) : Type 0 where
  pub declared : Declared
  pub split : drop i e.variables ≡ declared ∷ drop (i + 1) e.variables
  pub var : (v : Var) → v ≡ get_or m.vars.items i v → v ≡ declared.var
  pub place : (p : Place) → p ≡ get_or m.places.items i p → p ≡ declared.place

pub as_many : (e : Expansion) (m : Making) → IsMakingOf e m → (length m.vars.items ≡ length e.variables) × (length m.places.items ≡ length e.variables)
as_many e m h = (
  ap length h.parts.flattened.variables ∙ length-map e.variables (λ (d : Declared). d.var),
  ap length h.places ∙ length-map e.variables (λ (d : Declared). d.place),
)

pub declared_at : (e : Expansion) (m : Making) (i : ℕ) → IsMakingOf e m → i < length m.vars.items → DeclaredAt e m i
declared_at e m i h lt =
    let within : i < length e.variables = subst (λ (k : ℕ). i < k) (as_many e m h).0 lt in
    let in_places : i < length m.places.items = subst (λ (k : ℕ). i < k) (sym (as_many e m h).1) within in
    record {
      declared = get_or e.variables i no_declared;
      split = split_at e.variables i no_declared within;
      var = λ v is.
          is ∙ get_or_default m.vars.items i v no_var lt
          ∙ ap (λ (vs : List Var). get_or vs i no_var) h.parts.flattened.variables
          ∙ get_or-map (λ (x : Declared). x.var) e.variables i no_declared;
      place = λ p is.
          is ∙ get_or_default m.places.items i p no_place in_places
          ∙ ap (λ (ps : List Place). get_or ps i no_place) h.places
          ∙ get_or-map (λ (x : Declared). x.place) e.variables i no_declared;
    }

-- whether a variable is torn is told by the flat constraints
pub torn_is : (e : Expansion) (m : Making) (i : ℕ) → IsMakingOf e m → i < length m.vars.items → is_torn (subs_in i m.constraints.items) ≡ is_torn (subs_of i e.posts)
torn_is e m i h lt = ap (λ (cs : List Constraint). is_torn (subs_in i cs)) h.parts.flattened.constraints ∙ ap is_torn (subs_same (length m.vars.items) i e.posts lt h.parts.kinds)

-- where no constraint is of a subproblem, no variable is torn
pub none_torn : (e : Expansion) (m : Making) (count : ℕ) → IsMakingOf e m → some_sub m.constraints.items ≡ false → benders_tried e.posts 0 e.variables count ≡ reached count
none_torn e m count h none =
    benders_none e.posts 0 e.variables count (λ k lt.
    let within : k < length m.vars.items = omega (arith, lt, (as_many e m h).0) in
    sym (torn_is e m k h within) ∙ whole_without k m.constraints.items none)
