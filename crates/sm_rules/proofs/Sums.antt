-- One part more of a sum or a list of costs.
use Rattle.std.proofs.Common.{◌≡◌, ℕ, zero, suc, ◌+◌, ◌<◌, List, [], ◌∷◌, ◌++◌, length, get_or, set, take, drop, map, refl, arith, ap, ◌∙◌}
use Rattle.std.specs.Prelude.{ℤ, pos, ◌+ℤ◌}
use Rattle.std.proofs.lemmas.List.{at_drop_more}
use Rattle.sm_frac.specs.declared.fraction.Frac.{Frac}
use Rattle.sm_flat.specs.declared.goal.Goal.{Goal}
use Rattle.sm_flat.specs.declared.goal.Sense.{Sense}
use Rattle.sm_kinds.specs.Points.{Point}
use Rattle.sm_flat.specs.Goals.{minimised, HasValuesBy}
use Rattle.sm_store.specs.Stores.{Extent, extent_at}
use Rattle.sm_step.specs.Verdicts.{parts_of}
use Rattle.sm_rules.specs.Floors.{greater, raised}
use Rattle.sm_rules.specs.Objectives.{least_product, least_sum, least_cost, least_costs}

pub least_sum_more : (sense : Sense) (store : List Extent) (ts : List (ℕ × ℤ)) (i : ℕ) (d : ℕ × ℤ) → i < length ts → least_sum sense store (drop i ts) ≡ least_product (minimised sense (get_or ts i d).1) (extent_at store (get_or ts i d).0) +ℤ least_sum sense store (drop (i + 1) ts)
least_sum_more sense store ts i d lt = at_drop_more (λ xs. least_sum sense store xs) ts i d lt

-- the floors of one level more are raised
raise_more : (store : List Extent) (floors items : List Frac) (goals : List Goal) (i : ℕ) (new d : Frac) (g : Goal) → length floors ≡ length goals → i < length goals → map parts_of items ≡ raised (map parts_of (take i floors)) (least_costs (take i goals) store) ++ map parts_of (drop i floors) → parts_of new ≡ greater (parts_of (get_or items i d)) (least_cost store (get_or goals i g), pos 1) → map parts_of (set items i new) ≡ raised (map parts_of (take (suc i) floors)) (least_costs (take (suc i) goals) store) ++ map parts_of (drop (suc i) floors)
raise_more store floors items [] i new d g same lt so_far made = absurd (omega arith)
raise_more store [] items (h ∷ goals) i new d g same lt so_far made = absurd (omega arith)
raise_more store (x ∷ floors) [] (h ∷ goals) zero new d g same lt so_far made = absurd (cc)
raise_more store (x ∷ floors) [] (h ∷ goals) (suc i) new d g same lt so_far made = absurd (cc)
raise_more store (x ∷ floors) (y ∷ items) (h ∷ goals) zero new d g same lt so_far made = cc
raise_more store (x ∷ floors) (y ∷ items) (h ∷ goals) (suc i) new d g same lt so_far made =
    let tail : map parts_of items ≡ raised (map parts_of (take i floors)) (least_costs (take i goals) store) ++ map parts_of (drop i floors) = cc in
    cc (raise_more store floors items goals i new d g (omega arith) (omega arith) tail made)

pub raise_step : (store : List Extent) (floors items : List Frac) (goals : List Goal) (i : ℕ) (new old least : Frac) (g : Goal) → length floors ≡ length goals → i < length goals → map parts_of items ≡ raised (map parts_of (take i floors)) (least_costs (take i goals) store) ++ map parts_of (drop i floors) → old ≡ get_or items i old → g ≡ get_or goals i g → parts_of least ≡ (least_cost store g, pos 1) → parts_of new ≡ greater (parts_of old) (parts_of least) → map parts_of (set items i new) ≡ raised (map parts_of (take (i + 1) floors)) (least_costs (take (i + 1) goals) store) ++ map parts_of (drop (i + 1) floors)
raise_step store floors items goals i new old least g same lt so_far read read_goal cost made =
    let e : suc i ≡ i + 1 = omega arith in
    let made' : parts_of new ≡ greater (parts_of (get_or items i old)) (least_cost store (get_or goals i g), pos 1) = made ∙ ap (λ (p : ℤ × ℤ). greater (parts_of old) p) cost ∙ ap (λ (f : Frac). greater (parts_of f) (least_cost store g, pos 1)) read ∙ ap (λ (h : Goal). greater (parts_of (get_or items i old)) (least_cost store h, pos 1)) read_goal in
    rw e at (raise_more store floors items goals i new old g same lt so_far made')

-- as many values as goals
pub values_length : (goals : List Goal) (a : Point) (values : List Frac) → HasValuesBy goals a (map parts_of values) → length goals ≡ length values
values_length [] a [] h = refl
values_length [] a (v ∷ vs) h = absurd h
values_length (g ∷ gs) a [] h = absurd h
values_length (g ∷ gs) a (v ∷ vs) h = ap (λ (n : ℕ). suc n) (values_length gs a vs h.1)
