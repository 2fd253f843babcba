use Rattle.std.proofs.Common.{◌≡◌, ◌∙◌, ap, ap₂, sym, subst, arith, ℕ, ◌+◌, ◌<◌, suc, add-one, drop, get_or, length, Bool, true, false, List}
use Rattle.std.specs.Prelude.{◌&&◌}
use Rattle.sm_kinds.specs.Vars.{is_real_kind}
use Rattle.sm_kinds.specs.declared.var.Var.{Var}
use Rattle.sm_flat.specs.declared.form.Constraint.{Constraint}
use Rattle.sm_syntax.specs.declared.place.Place.{Place}
use Rattle.sm_meaning.specs.declared.refusal.Wrong.TheVariants.{Benders}
use Rattle.sm_meaning.specs.declared.refusal.ExpandRefusal.{ExpandRefusal}
use Rattle.sm_meaning.specs.declared.refusal.ExpandRefusal.TheVariants.{Meaning}
use Rattle.sm_meaning.specs.Trials.{stopped, IsStopped}
use Rattle.sm_meaning.specs.Expansions.{Declared, Expansion}
use Rattle.sm_meaning.specs.Models.{benders_tried, is_torn, subs_of}
use Rattle.sm_declarations.specs.Making.{IsMakingOf}
use Rattle.sm_expand.specs.Subproblems.{subs_in}
use Rattle.sm_expand.proofs.Torn.{some_sub, as_many, declared_at, torn_is, none_torn, benders_pass, benders_stop, and_false}
use Rattle.sm_expand.proofs.subproblems.try_subproblems.Goals.{else-is_real-via-then-is_real+else-is_torn, else-is_real-via-else-is_real}
use Rattle.sm_expand.proofs.subproblems.try_subproblems.Goals as goal

pub returns-then-not-has_subproblem : goal.returns-then-not-has_subproblem
returns-then-not-has_subproblem c = λ e count h.
    (none_torn e c.args.made.now count h (ap some_sub (sym c.as_slice-constraints.ensures.value) ∙ sym c.has_subproblem.ensures ∙ c.if-not-has_subproblem.true), tt)

pub index-requires : goal.index-requires
index-requires c =
    let many = as_many c.requires.expansion c.args.made.now c.requires.making in
    omega (arith, many.0, many.1, c.loop-var-test.true)

pub returns-then-is_torn : goal.returns-then-is_torn
returns-then-is_torn c = λ e count h.
    let i = c.loop-var.var in
    let lt : i < length c.args.made.now.vars.items = subst (λ (vs : List Var). i < length vs) c.as_slice-vars.ensures.value c.loop-var-test.true in
    let v = c.index-vars-var.result in
    let is = subst (λ (vs : List Var). v ≡ get_or vs i v) c.as_slice-vars.ensures.value c.index-vars-var.is in
    let d = declared_at e c.args.made.now i h lt in
    let real : is_real_kind d.declared.var.kind ≡ true = ap (λ (u : Var). is_real_kind u.kind) (sym (d.var v is)) ∙ sym c.is_real.ensures ∙ c.if-is_real.true in
    let torn : is_torn (subs_of i e.posts) ≡ true =
    sym (torn_is e c.args.made.now i h lt) ∙ ap (λ (cs : List Constraint). is_torn (subs_in i cs)) (sym c.as_slice-constraints.ensures.value) ∙ sym c.is_torn.ensures ∙ c.if-is_torn.true in
    let stops : benders_tried e.posts 0 e.variables count ≡ stopped (Meaning d.declared.place.line d.declared.place.column Benders) =
    sym (c.loop-var.invariant e count h) ∙ ap (λ ds. benders_tried e.posts i ds count) d.split
    ∙ benders_stop e.posts i d.declared (drop (i + 1) e.variables) count (ap₂ (λ (x y : Bool). x && y) real torn) in
    let at : c.index.result.now ≡ d.declared.place = d.place c.index.result.now c.index.ensures in
    subst (λ (r : ExpandRefusal). IsStopped r (benders_tried e.posts 0 e.variables count)) (sym c.at.ensures)
    (stops ∙ ap (λ (p : Place). stopped (Meaning p.line p.column Benders)) (sym at))

pub loop-var-preserved : goal.loop-var-preserved
loop-var-preserved c = λ e count h.
    let i = c.loop-var.var in
    let lt : i < length c.args.made.now.vars.items = subst (λ (vs : List Var). i < length vs) c.as_slice-vars.ensures.value c.loop-var-test.true in
    let v = c.index-vars-var.result in
    let is = subst (λ (vs : List Var). v ≡ get_or vs i v) c.as_slice-vars.ensures.value c.index-vars-var.is in
    let d = declared_at e c.args.made.now i h lt in
    let real : is_real_kind d.declared.var.kind ≡ c.is_real.result = ap (λ (u : Var). is_real_kind u.kind) (sym (d.var v is)) ∙ sym c.is_real.ensures in
    let right : (is_real_kind d.declared.var.kind && is_torn (subs_of i e.posts)) ≡ false =
    elim c.else-is_real.branch [
      | else-is_real-via-then-is_real+else-is_torn w ↦ and_false (is_real_kind d.declared.var.kind) (is_torn (subs_of i e.posts))
          (sym (torn_is e c.args.made.now i h lt) ∙ ap (λ (cs : List Constraint). is_torn (subs_in i cs)) (sym c.as_slice-constraints.ensures.value) ∙ sym w.is_torn.ensures ∙ w.if-is_torn.false)
      | else-is_real-via-else-is_real w ↦ ap (λ (x : Bool). x && is_torn (subs_of i e.posts)) (real ∙ w.if-is_real.false)
    ] in
    subst (λ (k : ℕ). benders_tried e.posts k (drop (i + 1) e.variables) count ≡ benders_tried e.posts 0 e.variables count) (sym (add-one i))
    (sym (ap (λ ds. benders_tried e.posts i ds count) d.split ∙ benders_pass e.posts i d.declared (drop (i + 1) e.variables) count right) ∙ c.loop-var.invariant e count h)
