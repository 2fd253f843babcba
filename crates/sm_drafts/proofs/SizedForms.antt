-- The total and the clauses: where there are too many clauses, the total isn't over its limit.
use Rattle.std.proofs.Common.{◌≡◌, ◌∙◌, ap, sym, refl, ℕ, ◌+◌, ◌≤◌, arith, Bool, true, false, length, if◌then◌else◌}
use Rattle.std.specs.Prelude.{nat_lt, nat_le, min, Some, None, option_map}
use Rattle.std.proofs.lemmas.Grind.{common_steps}
use Rattle.sm_data.specs.declared.refusal.Counted.{Counted}
use Rattle.sm_data.specs.declared.refusal.Counted.TheVariants as counted
use Rattle.sm_kinds.specs.Limits.{most_clauses, most_total}
use Rattle.sm_kinds.specs.Logic.{logic_size}
use Rattle.sm_flat.specs.declared.form.Form.{Form}
use Rattle.sm_flat.specs.Forms as flat
use Rattle.sm_clausify.specs.Propositions.{Proposition}
use Rattle.sm_clausify.specs.Clauses.{clauses_of}
use Rattle.sm_clausify.specs.Counting.{most}
use Rattle.sm_meaning.specs.declared.refusal.ExpandRefusal.{ExpandRefusal}
use Rattle.sm_meaning.specs.declared.refusal.ExpandRefusal.TheVariants as refusal
use Rattle.sm_meaning.specs.Refusals.{over}
use Rattle.sm_meaning.specs.Trials.{Trial, reached, stopped, tried, ◌▸◌, IsStopped}
use Rattle.sm_meaning.specs.Demands.{Demand, row, formula, row_when, kind}
use Rattle.sm_meaning.specs.Limits.{size_of, count_tried, clauses_tried}
use Rattle.sm_meaning.proofs.Steps.{stops, goes_on, stopped_same}
use Rattle.sm_flattening.proofs.Counts.{size_same}
use Rattle.sm_drafts.specs.Drafts.{IsFlatForm}
use Rattle.sm_drafts.specs.Sums.{IsSizedForm}

-- ---- what is within its limit passes

not_above : (bound k : ℕ) → k ≤ bound → nat_lt bound k ≡ false
not_above bound k le = grind (arith, common_steps)

count_passes : (what : Counted) (bound k count : ℕ) → k ≤ bound → count_tried what bound k count ≡ reached count
count_passes what bound k count le = ap (λ (b : Bool). tried (if b then Some (over what bound (bound + 1)) else None) count) (not_above bound k le)

few_pass : (q : Proposition) (count : ℕ) → length (clauses_of q false) ≤ most_clauses → clauses_tried (formula q) count ≡ reached count
few_pass q count le =
    let told = min (length (clauses_of q false)) most in
    ap (λ (b : Bool). tried (option_map (over counted.Clauses most_clauses) (if b then Some told else None)) count) (not_above most_clauses told (omega arith))

-- ---- too many clauses

-- they count as nothing
none_counted : (n : ℕ) (q : Proposition) (count : ℕ) (r : ExpandRefusal) → clauses_tried (formula q) count ≡ stopped r → size_of n (formula q) ≡ 0
none_counted n q count r h = by_case (nat_le (length (clauses_of q false)) most_clauses) refl
  where
    by_case : (b : Bool) → nat_le (length (clauses_of q false)) most_clauses ≡ b → (if b then logic_size (clauses_of q false) else 0) ≡ 0
    by_case true e =
        let le : length (clauses_of q false) ≤ most_clauses = grind (arith, common_steps) in
        let passes = few_pass q count le in
        absurd (cc)
    by_case false e = refl

abbrev pub total_tried : ℕ → Demand → ℕ → Trial
total_tried n d sizes = count_tried counted.Total most_total (sizes + size_of n d)

clauses_stop : (n : ℕ) (d : Demand) (sizes count : ℕ) (r : ExpandRefusal) → sizes ≤ most_total → clauses_tried d count ≡ stopped r → (total_tried n d sizes ▸ clauses_tried d) count ≡ stopped r
clauses_stop n (formula q) sizes count r le h =
    let none = none_counted n q count r h in
    goes_on (total_tried n (formula q) sizes) (clauses_tried (formula q)) count count (count_passes counted.Total most_total (sizes + size_of n (formula q)) count (omega (arith, none, le))) ∙ h
clauses_stop n (row c g) sizes count r le h = absurd (cc)
clauses_stop n (row_when ls c g) sizes count r le h = absurd (cc)
clauses_stop n (kind f) sizes count r le h = absurd (cc)

pub sized_refused : (n : ℕ) (d : Demand) (sizes count : ℕ) (e : ExpandRefusal) → sizes ≤ most_total → IsStopped e (clauses_tried d count) → IsStopped e ((total_tried n d sizes ▸ clauses_tried d) count)
sized_refused n d sizes count refusal.OutOfMemory le h = tt
sized_refused n d sizes count (refusal.Meaning line column what) le h = clauses_stop n d sizes count (refusal.Meaning line column what) le h
sized_refused n d sizes count (refusal.Limit what found bound) le h = clauses_stop n d sizes count (refusal.Limit what found bound) le h

-- ---- the total

form_size : (n : ℕ) (d : Demand) (f : Form) → IsFlatForm n d f → flat.size_of f ≡ size_of n d
form_size n d f h = ap flat.size_of h.form ∙ size_same n d h.few

pub total_refused : (n : ℕ) (d : Demand) (f : Form) (sizes count : ℕ) (e : ExpandRefusal) → IsFlatForm n d f
    → IsStopped e (count_tried counted.Total most_total (sizes + flat.size_of f) count) → IsStopped e ((total_tried n d sizes ▸ clauses_tried d) count)
total_refused n d f sizes count e h k =
    stops e (total_tried n d sizes) (clauses_tried d) count
    (stopped_same e (count_tried counted.Total most_total (sizes + flat.size_of f) count) (total_tried n d sizes count)
    (ap (λ (z : ℕ). count_tried counted.Total most_total (sizes + z) count) (form_size n d f h)) k)

pub sized_passes : (n : ℕ) (d : Demand) (f : Form) (sizes total count : ℕ) → (clauses_tried d count ≡ reached count) × IsFlatForm n d f
    → (count_tried counted.Total most_total (sizes + flat.size_of f) count ≡ reached count) × (total ≡ sizes + flat.size_of f)
    → ((total_tried n d sizes ▸ clauses_tried d) count ≡ reached count) × IsSizedForm n d sizes (record { form = f; sizes = total })
sized_passes n d f sizes total count h k =
    let same = form_size n d f h.1 in (
      goes_on (total_tried n d sizes) (clauses_tried d) count count (sym (ap (λ (z : ℕ). count_tried counted.Total most_total (sizes + z) count) same) ∙ k.0) ∙ h.0,
      record { form = h.1.form; few = h.1.few; total = k.1 ∙ ap (λ (z : ℕ). sizes + z) same },
    )
