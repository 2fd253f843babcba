-- What is tried of one more constraint, in three parts, and what the constraints come to with it.
use Rattle.std.proofs.Common.{◌≡◌, ◌∙◌, ap, ap₂, sym, ℕ, ◌+◌, ◌≤◌, arith, List, [], ◌∷◌, ◌++◌, length, length-append, if◌then◌else◌}
use Rattle.std.proofs.lemmas.List.{length-map}
use Rattle.std.proofs.lemmas.List.Sums.{sum_by_push}
use Rattle.sm_data.specs.declared.refusal.Counted.TheVariants as counted
use Rattle.sm_kinds.specs.declared.var.Var.{Var}
use Rattle.sm_kinds.specs.Limits.{most_constraints, most_total, most_real_rows}
use Rattle.sm_flat.specs.declared.form.Form.{Form}
use Rattle.sm_flat.specs.declared.tags.Tags.{Tags}
use Rattle.sm_meaning.specs.declared.refusal.ExpandRefusal.{ExpandRefusal}
use Rattle.sm_meaning.specs.Scopes.{count_of}
use Rattle.sm_meaning.specs.Trials.{Trial, reached, nothing_tried, ◌▸◌, IsStopped}
use Rattle.sm_meaning.specs.Demands.{Demand, row, formula, row_when, kind}
use Rattle.sm_meaning.specs.Expansions.{Post, Expansion, vars_of, scope_of}
use Rattle.sm_meaning.specs.Limits as limit
use Rattle.sm_meaning.specs.Limits.{row_coefficients_tried, bounds_of, entries_of, count_tried, terms_tried, clauses_tried, size_of, total_of, is_real_row, groups_tried, kind_limits_tried, tag_limits_tried, post_limits_tried}
use Rattle.sm_meaning.proofs.Steps.{stops, stops_later, goes_on, stopped_same}
use Rattle.sm_flattening.specs.Flattening.{form_of}
use Rattle.sm_drafts.specs.declared.adding.Totals.{Totals}
use Rattle.sm_drafts.specs.Drafts.{bounds_tried, entries_tried, front_tried, rest_tried}
use Rattle.sm_drafts.specs.Sums.{AreTotals, IsSizedForm, IsAdded}
use Rattle.sm_drafts.proofs.Parts.{grouped, resumed_same}
use Rattle.sm_drafts.proofs.Reached.{both_reached, count_small}
use Rattle.sm_drafts.proofs.SizedForms.{total_tried}

-- ---- regrouping

behind : (a x y : Trial) → ((n : ℕ) → x n ≡ y n) → (count : ℕ) → (a ▸ x) count ≡ (a ▸ y) count
behind a x y h count = resumed_same (a count) x y h

pushed : (a x y z : Trial) → ((n : ℕ) → (x ▸ y) n ≡ z n) → (count : ℕ) → ((a ▸ x) ▸ y) count ≡ (a ▸ z) count
pushed a x y z h count = grouped a x y count ∙ behind a (x ▸ y) z h count

regrouped : (a b c d f g h r : Trial) (count : ℕ) → ((a ▸ b ▸ c ▸ d ▸ f) ▸ ((g ▸ h) ▸ r)) count ≡ (a ▸ b ▸ c ▸ d ▸ f ▸ g ▸ h ▸ r) count
regrouped a b c d f g h r =
    pushed a (b ▸ c ▸ d ▸ f) ((g ▸ h) ▸ r) (b ▸ c ▸ d ▸ f ▸ g ▸ h ▸ r)
    (pushed b (c ▸ d ▸ f) ((g ▸ h) ▸ r) (c ▸ d ▸ f ▸ g ▸ h ▸ r)
    (pushed c (d ▸ f) ((g ▸ h) ▸ r) (d ▸ f ▸ g ▸ h ▸ r)
    (pushed d f ((g ▸ h) ▸ r) (f ▸ g ▸ h ▸ r)
    (behind f ((g ▸ h) ▸ r) (g ▸ h ▸ r) (grouped g h r)))))

-- ---- what is counted

rest_same : (vars us : List Var) (n : ℕ) (d : Demand) (rows more : ℕ) (t u : Tags) → vars ≡ us → rows ≡ more → t ≡ u
    → rest_tried vars (form_of n d) rows t ≡ (groups_tried us d ▸ count_tried counted.Realrows most_real_rows more ▸ tag_limits_tried u)
rest_same vars us n d rows more t u is same tags = by_demand d
  where
    others : (part : Trial) → (part ▸ count_tried counted.Realrows most_real_rows rows ▸ tag_limits_tried t) ≡ (part ▸ count_tried counted.Realrows most_real_rows more ▸ tag_limits_tried u)
    others part = ap₂ (λ (k : ℕ) (x : Tags). part ▸ count_tried counted.Realrows most_real_rows k ▸ tag_limits_tried x) same tags

    by_demand : (d : Demand) → rest_tried vars (form_of n d) rows t ≡ (groups_tried us d ▸ count_tried counted.Realrows most_real_rows more ▸ tag_limits_tried u)
    by_demand (row c g) = others nothing_tried
    by_demand (formula q) = others nothing_tried
    by_demand (row_when ls c g) = others nothing_tried
    by_demand (kind f) = others (kind_limits_tried vars f) ∙ ap (λ (xs : List Var). kind_limits_tried xs f ▸ count_tried counted.Realrows most_real_rows more ▸ tag_limits_tried u) is

-- the last of the first part: there is room for one more constraint
room_left : (n : ℕ) (d : Demand) (k count : ℕ) → front_tried n d k count ≡ reached count → k + 1 ≤ most_constraints
room_left n d k count h =
    let terms = terms_tried n d in
    let room = count_tried counted.Constraints most_constraints (k + 1) in
    let entries = entries_tried (entries_of d) in
    let bounds = bounds_tried (bounds_of d) in
    let a = both_reached (row_coefficients_tried n d) (bounds ▸ entries ▸ room ▸ terms) count count h in
    let b = both_reached bounds (entries ▸ room ▸ terms) a.0 count a.2 in
    let c = both_reached entries (room ▸ terms) b.0 count b.2 in
    let e = both_reached room terms c.0 count c.2 in
    count_small counted.Constraints most_constraints (k + 1) c.0 e.0 e.1

total_small : (n : ℕ) (d : Demand) (sizes count : ℕ) → (total_tried n d sizes ▸ clauses_tried d) count ≡ reached count → sizes + size_of n d ≤ most_total
total_small n d sizes count h =
    let a = both_reached (total_tried n d sizes) (clauses_tried d) count count h in
    count_small counted.Total most_total (sizes + size_of n d) count a.0 a.1

rows_small : (vars : List Var) (f : Form) (rows : ℕ) (t : Tags) (count : ℕ) → rest_tried vars f rows t count ≡ reached count → rows ≤ most_real_rows
rows_small vars f rows t count h =
    let room = count_tried counted.Realrows most_real_rows rows in
    let a = both_reached (kind_limits_tried vars f) (room ▸ tag_limits_tried t) count count h in
    let b = both_reached room (tag_limits_tried t) a.0 count a.2 in
    count_small counted.Realrows most_real_rows rows a.0 b.0 b.1

-- ---- one more constraint

module _ (e : Expansion) (p : Post) (vars : List Var) (t : Totals) (is : vars ≡ vars_of e) (of : AreTotals e t) where
  abbrev n : ℕ
  n = length vars

  abbrev d : Demand
  d = p.demand

  abbrev front : Trial
  front = front_tried n d t.constraints

  abbrev middle : Trial
  middle = total_tried n d t.sizes ▸ clauses_tried d

  abbrev rest : Trial
  rest = groups_tried (vars_of e) d ▸ count_tried counted.Realrows most_real_rows (limit.real_rows (scope_of e) (e.posts ++ p ∷ [])) ▸ tag_limits_tried p.tags

  count_same : n ≡ count_of (scope_of e)
  count_same = ap (λ us. length us) is ∙ sym (length-map (vars_of e) (λ (v : Var). v.kind))

  total_same : t.sizes + size_of n d ≡ total_of (count_of (scope_of e)) (e.posts ++ p ∷ [])
  total_same =
      ap₂ (λ (x m : ℕ). x + size_of m d) of.sizes count_same
      ∙ sym (sum_by_push (λ (q : Post). size_of (count_of (scope_of e)) q.demand) e.posts p)

  rows_same : (one : ℕ) → one ≡ (if is_real_row (scope_of e) d then 1 else 0) → t.real_rows + one ≡ limit.real_rows (scope_of e) (e.posts ++ p ∷ [])
  rows_same one same =
      ap₂ (λ (x y : ℕ). x + y) of.real_rows same
      ∙ sym (sum_by_push (λ (q : Post). if is_real_row (scope_of e) q.demand then 1 else 0) e.posts p)

  -- all that is tried, with n in the place of the count of variables
  all_same : (count : ℕ) → (front ▸ middle ▸ rest) count ≡ post_limits_tried e p count
  all_same count =
      regrouped (row_coefficients_tried n d) (bounds_tried (bounds_of d)) (entries_tried (entries_of d)) (count_tried counted.Constraints most_constraints (t.constraints + 1)) (terms_tried n d)
      (total_tried n d t.sizes) (clauses_tried d) rest count
      ∙ ap (λ (k : ℕ). (row_coefficients_tried n d ▸ bounds_tried (bounds_of d) ▸ entries_tried (entries_of d) ▸ count_tried counted.Constraints most_constraints (k + 1) ▸ terms_tried n d ▸ total_tried n d t.sizes ▸ clauses_tried d ▸ rest) count) of.constraints
      ∙ ap (λ (k : ℕ). (row_coefficients_tried n d ▸ bounds_tried (bounds_of d) ▸ entries_tried (entries_of d) ▸ count_tried counted.Constraints most_constraints (length e.posts + 1) ▸ terms_tried n d ▸ count_tried counted.Total most_total k ▸ clauses_tried d ▸ rest) count) total_same
      ∙ ap (λ (k : ℕ). (row_coefficients_tried k d ▸ bounds_tried (bounds_of d) ▸ entries_tried (entries_of d) ▸ count_tried counted.Constraints most_constraints (length e.posts + 1) ▸ terms_tried k d ▸ count_tried counted.Total most_total (total_of (count_of (scope_of e)) (e.posts ++ p ∷ [])) ▸ clauses_tried d ▸ rest) count) count_same

  pub front_refused : (x : ExpandRefusal) (count : ℕ) → IsStopped x (front count) → IsStopped x (post_limits_tried e p count)
  front_refused x count h = stopped_same x ((front ▸ middle ▸ rest) count) (post_limits_tried e p count) (all_same count) (stops x front (middle ▸ rest) count h)

  pub middle_refused : (x : ExpandRefusal) (count : ℕ) → front count ≡ reached count → IsStopped x (middle count) → IsStopped x (post_limits_tried e p count)
  middle_refused x count h k =
      stopped_same x ((front ▸ middle ▸ rest) count) (post_limits_tried e p count) (all_same count)
      (stops_later x front (middle ▸ rest) count count h (stops x middle rest count k))

  -- the rest as the code tries it
  rest_is : (f : Form) (one : ℕ) (tags : Tags) → f ≡ form_of n d → one ≡ (if is_real_row (scope_of e) d then 1 else 0) → p.tags ≡ tags → rest_tried vars f (t.real_rows + one) tags ≡ rest
  rest_is f one tags form same tagged =
      ap (λ (g : Form). rest_tried vars g (t.real_rows + one) tags) form
      ∙ rest_same vars (vars_of e) n d (t.real_rows + one) (limit.real_rows (scope_of e) (e.posts ++ p ∷ [])) tags p.tags is (rows_same one same) (sym tagged)

  pub rest_refused : (x : ExpandRefusal) (f : Form) (one : ℕ) (tags : Tags) (count : ℕ) → f ≡ form_of n d → one ≡ (if is_real_row (scope_of e) d then 1 else 0) → p.tags ≡ tags
      → front count ≡ reached count → middle count ≡ reached count → IsStopped x (rest_tried vars f (t.real_rows + one) tags count) → IsStopped x (post_limits_tried e p count)
  rest_refused x f one tags count form same tagged h k r =
      stopped_same x ((front ▸ middle ▸ rest) count) (post_limits_tried e p count) (all_same count)
      (stops_later x front (middle ▸ rest) count count h (stops_later x middle rest count count k
      (stopped_same x (rest_tried vars f (t.real_rows + one) tags count) (rest count) (ap (λ (part : Trial). part count) (rest_is f one tags form same tagged)) r)))

  -- All three parts pass, one after another. The constraint is then the sized form with its tags; the totals are those so far and what the
  -- post adds to each, and each is within its limit since its test passed.
  pub added : (f : Form) (sizes one : ℕ) (tags : Tags) (count : ℕ) → IsSizedForm n d t.sizes (record { form = f; sizes = sizes }) → one ≡ (if is_real_row (scope_of e) d then 1 else 0) → p.tags ≡ tags
      → front count ≡ reached count → middle count ≡ reached count → rest_tried vars f (t.real_rows + one) tags count ≡ reached count
      → (post_limits_tried e p count ≡ reached count)
      × IsAdded n e p (record { constraint = record { form = f; tags = tags }; totals = record { constraints = t.constraints + 1; sizes = sizes; real_rows = t.real_rows + one } })
  added f sizes one tags count sized same tagged h k r =
      let rested = sym (ap (λ (part : Trial). part count) (rest_is f one tags sized.form same tagged)) ∙ r in
      let small = total_small n d t.sizes count k in (
        sym (all_same count) ∙ goes_on front (middle ▸ rest) count count h ∙ goes_on middle rest count count k ∙ rested,
        record {
          constraint = ap₂ (λ (g : Form) (u : Tags). record { form = g; tags = u }) sized.form (sym tagged);
          few = sized.few;
          totals = record {
            constraints = (let longer = length-append e.posts (p ∷ []) in omega (arith, longer, of.constraints));
            sizes = sized.total ∙ total_same;
            real_rows = rows_same one same;
            within = record {
              constraints = room_left n d t.constraints count h;
              sizes = omega (arith, small, sized.total);
              real_rows = rows_small vars f (t.real_rows + one) tags count r;
            };
          };
        },
      )
