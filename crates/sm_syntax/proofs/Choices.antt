-- What single words and signs choose.
use Rattle.std.proofs.Common.{◌≡◌, ap, sym, subst, refl, ℕ, ◌==◌, true, false, [], ◌∷◌, Some, None, eq-eqb}
use Rattle.sm_syntax.specs.declared.terminal.Terminal.{Terminal}
use Rattle.sm_syntax.specs.declared.terminal.Terminal.TheVariants as terminal
use Rattle.sm_syntax.specs.Terminals.{code_of}
use Rattle.sm_syntax.specs.Grammars.{Symbol, leaf, node, predict}
use Rattle.sm_syntax.specs.Grammar as g
use Rattle.sm_syntax.specs.Parsing.{kind, becomes, bad, is_rule}
use Rattle.sm_syntax.specs.Reading.{Standing, left, next, is_next, is_plain, unlisted, Leads, Stops}
use Rattle.sm_syntax.specs.Symbols.{sign_of, relation_of, lit_relation_of, quantifier_of, choosing_of, level_of, relaxing_of, picking_of, splitting_of}
use Rattle.sm_syntax.specs.TreeSteps.{sign_symbol, sign_then, relation_symbol, relation_then, lit_relation_symbol, lit_relation_then, quantifier_symbol, quantifier_then, choosing_symbol, choosing_then, level_symbol, level_then, relaxing_symbol, relaxing_then, picking_symbol, picking_then, splitting_symbol, splitting_then}
use Rattle.sm_syntax.proofs.Readings.{after, opened_group, restep, stop_after, stop_other}
use Rattle.sm_syntax.specs.declared.tree.Sign.{Sign}
use Rattle.sm_syntax.specs.declared.tree.Sign.TheVariants as signs
use Rattle.sm_syntax.specs.declared.tree.Relation.{Relation}
use Rattle.sm_syntax.specs.declared.tree.Relation.TheVariants as relations
use Rattle.sm_syntax.specs.declared.tree.LitRelation.{LitRelation}
use Rattle.sm_syntax.specs.declared.tree.LitRelation.TheVariants as lit_relations
use Rattle.sm_syntax.specs.declared.formula.Quantifier.{Quantifier}
use Rattle.sm_syntax.specs.declared.formula.Quantifier.TheVariants as quantifiers
use Rattle.sm_syntax.specs.declared.tree.Choosing.{Choosing}
use Rattle.sm_syntax.specs.declared.tree.Choosing.TheVariants as choosings
use Rattle.sm_syntax.specs.declared.tree.Level.{Level}
use Rattle.sm_syntax.specs.declared.tree.Level.TheVariants as levels
use Rattle.sm_syntax.specs.declared.tree.Relaxing.{Relaxing}
use Rattle.sm_syntax.specs.declared.tree.Relaxing.TheVariants as relaxings
use Rattle.sm_syntax.specs.declared.tree.Picking.{Picking}
use Rattle.sm_syntax.specs.declared.tree.Picking.TheVariants as pickings
use Rattle.sm_syntax.specs.declared.tree.Splitting.{Splitting}
use Rattle.sm_syntax.specs.declared.tree.Splitting.TheVariants as splittings

-- a terminal with what it chooses
pub record Chosen (A : ℕ) (t : Terminal) (x : Symbol) : Type 0 where
  pub side : predict g.grammar A (code_of t) ≡ Some (leaf (code_of t) ∷ [])
  pub symbol : x ≡ leaf (code_of t)
  pub plain : is_plain t ≡ true

pub plain_word : {A : ℕ} {t : Terminal} {x : Symbol} → Chosen A t x → is_plain t ≡ true
plain_word w = w.plain

pub next_word : (s : Standing) (t : Terminal) → t ≡ s.first.terminal → is_next t s ≡ true
next_word s t first = eq-eqb (code_of t) (kind s.first) (ap code_of first)

word_read : {A : ℕ} {t : Terminal} {x : Symbol} (s u : Standing) → is_rule A ≡ false → t ≡ s.first.terminal → Chosen A t x → Leads s (leaf (code_of t) ∷ []) (unlisted t) u [] → Leads s (node A ∷ []) (λ r. becomes (node A) (x ∷ []) ∷ r) u []
word_read {A} {t} {x} s u group first w lead =
    let side : predict g.grammar A (next s) ≡ Some (leaf (code_of t) ∷ []) = subst (λ (z : Terminal). predict g.grammar A (code_of z) ≡ Some (leaf (code_of t) ∷ [])) first w.side in
    restep (λ r. becomes (node A) (x ∷ []) ∷ r) (λ r. ap (λ (y : Symbol). becomes (node A) (y ∷ []) ∷ r) (sym w.symbol))
    (after (opened_group s A (leaf (code_of t) ∷ []) group side) lead)

word_stop : (A c : ℕ) (s : Standing) → is_rule A ≡ false → predict g.grammar A (next s) ≡ Some (leaf c ∷ []) → (c == kind s.first) ≡ false → Stops s (node A ∷ []) (bad (left s))
word_stop A c s group side differs = stop_after (opened_group s A (leaf c ∷ []) group side) (stop_other s c differs)

-- ---- sign

pub sign_word : (t : Terminal) (x : Sign) → sign_of t ≡ Some x → Chosen 37 t (sign_symbol x)
unfolding g.grammar
sign_word terminal.Plus x e = let same : signs.Plus ≡ x = cc in subst (λ (y : Sign). Chosen 37 terminal.Plus (sign_symbol y)) same (record { side = refl; symbol = refl; plain = refl })
sign_word terminal.Minus x e = let same : signs.Minus ≡ x = cc in subst (λ (y : Sign). Chosen 37 terminal.Minus (sign_symbol y)) same (record { side = refl; symbol = refl; plain = refl })
sign_word _ x e = absurd (let wrong : None ≡ Some x = e in cc)

pub sign_reads : (s u : Standing) (t : Terminal) (x : Sign) → t ≡ s.first.terminal → sign_of t ≡ Some x → Leads s (leaf (code_of t) ∷ []) (unlisted t) u [] → Leads s (node 37 ∷ []) (sign_then x) u []
sign_reads s u t x first e lead = word_read s u refl first (sign_word t x e) lead

sign_side : (t : Terminal) → sign_of t ≡ None → (predict g.grammar 37 (code_of t) ≡ Some (g.token_plus ∷ [])) × ((60 == code_of t) ≡ false)
unfolding g.grammar
sign_side terminal.Plus e = absurd (let wrong : Some signs.Plus ≡ None = e in cc)
sign_side terminal.Minus e = absurd (let wrong : Some signs.Minus ≡ None = e in cc)
sign_side _ e = (refl, refl)

pub sign_stops : (s : Standing) (t : Terminal) → t ≡ s.first.terminal → sign_of t ≡ None → Stops s (node 37 ∷ []) (bad (left s))
sign_stops s t first e =
    let side = sign_side t e in
    word_stop 37 60 s refl (subst (λ (z : Terminal). predict g.grammar 37 (code_of z) ≡ Some (g.token_plus ∷ [])) first side.0) (subst (λ (z : Terminal). (60 == code_of z) ≡ false) first side.1)

-- ---- relation

pub relation_word : (t : Terminal) (x : Relation) → relation_of t ≡ Some x → Chosen 34 t (relation_symbol x)
unfolding g.grammar
relation_word terminal.Less x e = let same : relations.Less ≡ x = cc in subst (λ (y : Relation). Chosen 34 terminal.Less (relation_symbol y)) same (record { side = refl; symbol = refl; plain = refl })
relation_word terminal.AtMost x e = let same : relations.AtMost ≡ x = cc in subst (λ (y : Relation). Chosen 34 terminal.AtMost (relation_symbol y)) same (record { side = refl; symbol = refl; plain = refl })
relation_word terminal.Greater x e = let same : relations.Greater ≡ x = cc in subst (λ (y : Relation). Chosen 34 terminal.Greater (relation_symbol y)) same (record { side = refl; symbol = refl; plain = refl })
relation_word terminal.AtLeast x e = let same : relations.AtLeast ≡ x = cc in subst (λ (y : Relation). Chosen 34 terminal.AtLeast (relation_symbol y)) same (record { side = refl; symbol = refl; plain = refl })
relation_word terminal.Equal x e = let same : relations.Equal ≡ x = cc in subst (λ (y : Relation). Chosen 34 terminal.Equal (relation_symbol y)) same (record { side = refl; symbol = refl; plain = refl })
relation_word terminal.Unequal x e = let same : relations.Unequal ≡ x = cc in subst (λ (y : Relation). Chosen 34 terminal.Unequal (relation_symbol y)) same (record { side = refl; symbol = refl; plain = refl })
relation_word _ x e = absurd (let wrong : None ≡ Some x = e in cc)

pub relation_reads : (s u : Standing) (t : Terminal) (x : Relation) → t ≡ s.first.terminal → relation_of t ≡ Some x → Leads s (leaf (code_of t) ∷ []) (unlisted t) u [] → Leads s (node 34 ∷ []) (relation_then x) u []
relation_reads s u t x first e lead = word_read s u refl first (relation_word t x e) lead

relation_side : (t : Terminal) → relation_of t ≡ None → (predict g.grammar 34 (code_of t) ≡ Some (g.token_less ∷ [])) × ((54 == code_of t) ≡ false)
unfolding g.grammar
relation_side terminal.Less e = absurd (let wrong : Some relations.Less ≡ None = e in cc)
relation_side terminal.AtMost e = absurd (let wrong : Some relations.AtMost ≡ None = e in cc)
relation_side terminal.Greater e = absurd (let wrong : Some relations.Greater ≡ None = e in cc)
relation_side terminal.AtLeast e = absurd (let wrong : Some relations.AtLeast ≡ None = e in cc)
relation_side terminal.Equal e = absurd (let wrong : Some relations.Equal ≡ None = e in cc)
relation_side terminal.Unequal e = absurd (let wrong : Some relations.Unequal ≡ None = e in cc)
relation_side _ e = (refl, refl)

pub relation_stops : (s : Standing) (t : Terminal) → t ≡ s.first.terminal → relation_of t ≡ None → Stops s (node 34 ∷ []) (bad (left s))
relation_stops s t first e =
    let side = relation_side t e in
    word_stop 34 54 s refl (subst (λ (z : Terminal). predict g.grammar 34 (code_of z) ≡ Some (g.token_less ∷ [])) first side.0) (subst (λ (z : Terminal). (54 == code_of z) ≡ false) first side.1)

-- ---- lit_relation

pub lit_relation_word : (t : Terminal) (x : LitRelation) → lit_relation_of t ≡ Some x → Chosen 53 t (lit_relation_symbol x)
unfolding g.grammar
lit_relation_word terminal.AtMost x e = let same : lit_relations.AtMost ≡ x = cc in subst (λ (y : LitRelation). Chosen 53 terminal.AtMost (lit_relation_symbol y)) same (record { side = refl; symbol = refl; plain = refl })
lit_relation_word terminal.AtLeast x e = let same : lit_relations.AtLeast ≡ x = cc in subst (λ (y : LitRelation). Chosen 53 terminal.AtLeast (lit_relation_symbol y)) same (record { side = refl; symbol = refl; plain = refl })
lit_relation_word terminal.Equal x e = let same : lit_relations.Equal ≡ x = cc in subst (λ (y : LitRelation). Chosen 53 terminal.Equal (lit_relation_symbol y)) same (record { side = refl; symbol = refl; plain = refl })
lit_relation_word terminal.Unequal x e = let same : lit_relations.Unequal ≡ x = cc in subst (λ (y : LitRelation). Chosen 53 terminal.Unequal (lit_relation_symbol y)) same (record { side = refl; symbol = refl; plain = refl })
lit_relation_word _ x e = absurd (let wrong : None ≡ Some x = e in cc)

pub lit_relation_reads : (s u : Standing) (t : Terminal) (x : LitRelation) → t ≡ s.first.terminal → lit_relation_of t ≡ Some x → Leads s (leaf (code_of t) ∷ []) (unlisted t) u [] → Leads s (node 53 ∷ []) (lit_relation_then x) u []
lit_relation_reads s u t x first e lead = word_read s u refl first (lit_relation_word t x e) lead

lit_relation_side : (t : Terminal) → lit_relation_of t ≡ None → (predict g.grammar 53 (code_of t) ≡ Some (g.token_at_most ∷ [])) × ((55 == code_of t) ≡ false)
unfolding g.grammar
lit_relation_side terminal.AtMost e = absurd (let wrong : Some lit_relations.AtMost ≡ None = e in cc)
lit_relation_side terminal.AtLeast e = absurd (let wrong : Some lit_relations.AtLeast ≡ None = e in cc)
lit_relation_side terminal.Equal e = absurd (let wrong : Some lit_relations.Equal ≡ None = e in cc)
lit_relation_side terminal.Unequal e = absurd (let wrong : Some lit_relations.Unequal ≡ None = e in cc)
lit_relation_side _ e = (refl, refl)

pub lit_relation_stops : (s : Standing) (t : Terminal) → t ≡ s.first.terminal → lit_relation_of t ≡ None → Stops s (node 53 ∷ []) (bad (left s))
lit_relation_stops s t first e =
    let side = lit_relation_side t e in
    word_stop 53 55 s refl (subst (λ (z : Terminal). predict g.grammar 53 (code_of z) ≡ Some (g.token_at_most ∷ [])) first side.0) (subst (λ (z : Terminal). (55 == code_of z) ≡ false) first side.1)

-- ---- quantifier

pub quantifier_word : (t : Terminal) (x : Quantifier) → quantifier_of t ≡ Some x → Chosen 52 t (quantifier_symbol x)
unfolding g.grammar
quantifier_word terminal.All x e = let same : quantifiers.All ≡ x = cc in subst (λ (y : Quantifier). Chosen 52 terminal.All (quantifier_symbol y)) same (record { side = refl; symbol = refl; plain = refl })
quantifier_word terminal.Any x e = let same : quantifiers.Any ≡ x = cc in subst (λ (y : Quantifier). Chosen 52 terminal.Any (quantifier_symbol y)) same (record { side = refl; symbol = refl; plain = refl })
quantifier_word _ x e = absurd (let wrong : None ≡ Some x = e in cc)

pub quantifier_reads : (s u : Standing) (t : Terminal) (x : Quantifier) → t ≡ s.first.terminal → quantifier_of t ≡ Some x → Leads s (leaf (code_of t) ∷ []) (unlisted t) u [] → Leads s (node 52 ∷ []) (quantifier_then x) u []
quantifier_reads s u t x first e lead = word_read s u refl first (quantifier_word t x e) lead

quantifier_side : (t : Terminal) → quantifier_of t ≡ None → (predict g.grammar 52 (code_of t) ≡ Some (g.token_all ∷ [])) × ((32 == code_of t) ≡ false)
unfolding g.grammar
quantifier_side terminal.All e = absurd (let wrong : Some quantifiers.All ≡ None = e in cc)
quantifier_side terminal.Any e = absurd (let wrong : Some quantifiers.Any ≡ None = e in cc)
quantifier_side _ e = (refl, refl)

pub quantifier_stops : (s : Standing) (t : Terminal) → t ≡ s.first.terminal → quantifier_of t ≡ None → Stops s (node 52 ∷ []) (bad (left s))
quantifier_stops s t first e =
    let side = quantifier_side t e in
    word_stop 52 32 s refl (subst (λ (z : Terminal). predict g.grammar 52 (code_of z) ≡ Some (g.token_all ∷ [])) first side.0) (subst (λ (z : Terminal). (32 == code_of z) ≡ false) first side.1)

-- ---- choosing

pub choosing_word : (t : Terminal) (x : Choosing) → choosing_of t ≡ Some x → Chosen 41 t (choosing_symbol x)
unfolding g.grammar
choosing_word terminal.Indexsum x e = let same : choosings.Indexsum ≡ x = cc in subst (λ (y : Choosing). Chosen 41 terminal.Indexsum (choosing_symbol y)) same (record { side = refl; symbol = refl; plain = refl })
choosing_word terminal.Assign x e = let same : choosings.Assign ≡ x = cc in subst (λ (y : Choosing). Chosen 41 terminal.Assign (choosing_symbol y)) same (record { side = refl; symbol = refl; plain = refl })
choosing_word _ x e = absurd (let wrong : None ≡ Some x = e in cc)

pub choosing_reads : (s u : Standing) (t : Terminal) (x : Choosing) → t ≡ s.first.terminal → choosing_of t ≡ Some x → Leads s (leaf (code_of t) ∷ []) (unlisted t) u [] → Leads s (node 41 ∷ []) (choosing_then x) u []
choosing_reads s u t x first e lead = word_read s u refl first (choosing_word t x e) lead

choosing_side : (t : Terminal) → choosing_of t ≡ None → (predict g.grammar 41 (code_of t) ≡ Some (g.token_indexsum ∷ [])) × ((23 == code_of t) ≡ false)
unfolding g.grammar
choosing_side terminal.Indexsum e = absurd (let wrong : Some choosings.Indexsum ≡ None = e in cc)
choosing_side terminal.Assign e = absurd (let wrong : Some choosings.Assign ≡ None = e in cc)
choosing_side _ e = (refl, refl)

pub choosing_stops : (s : Standing) (t : Terminal) → t ≡ s.first.terminal → choosing_of t ≡ None → Stops s (node 41 ∷ []) (bad (left s))
choosing_stops s t first e =
    let side = choosing_side t e in
    word_stop 41 23 s refl (subst (λ (z : Terminal). predict g.grammar 41 (code_of z) ≡ Some (g.token_indexsum ∷ [])) first side.0) (subst (λ (z : Terminal). (23 == code_of z) ≡ false) first side.1)

-- ---- level

pub level_word : (t : Terminal) (x : Level) → level_of t ≡ Some x → Chosen 54 t (level_symbol x)
unfolding g.grammar
level_word terminal.None x e = let same : levels.None ≡ x = cc in subst (λ (y : Level). Chosen 54 terminal.None (level_symbol y)) same (record { side = refl; symbol = refl; plain = refl })
level_word terminal.Bounds x e = let same : levels.Bounds ≡ x = cc in subst (λ (y : Level). Chosen 54 terminal.Bounds (level_symbol y)) same (record { side = refl; symbol = refl; plain = refl })
level_word terminal.Full x e = let same : levels.Full ≡ x = cc in subst (λ (y : Level). Chosen 54 terminal.Full (level_symbol y)) same (record { side = refl; symbol = refl; plain = refl })
level_word _ x e = absurd (let wrong : None ≡ Some x = e in cc)

pub level_reads : (s u : Standing) (t : Terminal) (x : Level) → t ≡ s.first.terminal → level_of t ≡ Some x → Leads s (leaf (code_of t) ∷ []) (unlisted t) u [] → Leads s (node 54 ∷ []) (level_then x) u []
level_reads s u t x first e lead = word_read s u refl first (level_word t x e) lead

level_side : (t : Terminal) → level_of t ≡ None → (predict g.grammar 54 (code_of t) ≡ Some (g.token_none ∷ [])) × ((40 == code_of t) ≡ false)
unfolding g.grammar
level_side terminal.None e = absurd (let wrong : Some levels.None ≡ None = e in cc)
level_side terminal.Bounds e = absurd (let wrong : Some levels.Bounds ≡ None = e in cc)
level_side terminal.Full e = absurd (let wrong : Some levels.Full ≡ None = e in cc)
level_side _ e = (refl, refl)

pub level_stops : (s : Standing) (t : Terminal) → t ≡ s.first.terminal → level_of t ≡ None → Stops s (node 54 ∷ []) (bad (left s))
level_stops s t first e =
    let side = level_side t e in
    word_stop 54 40 s refl (subst (λ (z : Terminal). predict g.grammar 54 (code_of z) ≡ Some (g.token_none ∷ [])) first side.0) (subst (λ (z : Terminal). (40 == code_of z) ≡ false) first side.1)

-- ---- relaxing

pub relaxing_word : (t : Terminal) (x : Relaxing) → relaxing_of t ≡ Some x → Chosen 55 t (relaxing_symbol x)
unfolding g.grammar
relaxing_word terminal.On x e = let same : relaxings.On ≡ x = cc in subst (λ (y : Relaxing). Chosen 55 terminal.On (relaxing_symbol y)) same (record { side = refl; symbol = refl; plain = refl })
relaxing_word terminal.None x e = let same : relaxings.None ≡ x = cc in subst (λ (y : Relaxing). Chosen 55 terminal.None (relaxing_symbol y)) same (record { side = refl; symbol = refl; plain = refl })
relaxing_word _ x e = absurd (let wrong : None ≡ Some x = e in cc)

pub relaxing_reads : (s u : Standing) (t : Terminal) (x : Relaxing) → t ≡ s.first.terminal → relaxing_of t ≡ Some x → Leads s (leaf (code_of t) ∷ []) (unlisted t) u [] → Leads s (node 55 ∷ []) (relaxing_then x) u []
relaxing_reads s u t x first e lead = word_read s u refl first (relaxing_word t x e) lead

relaxing_side : (t : Terminal) → relaxing_of t ≡ None → (predict g.grammar 55 (code_of t) ≡ Some (g.token_on ∷ [])) × ((43 == code_of t) ≡ false)
unfolding g.grammar
relaxing_side terminal.On e = absurd (let wrong : Some relaxings.On ≡ None = e in cc)
relaxing_side terminal.None e = absurd (let wrong : Some relaxings.None ≡ None = e in cc)
relaxing_side _ e = (refl, refl)

pub relaxing_stops : (s : Standing) (t : Terminal) → t ≡ s.first.terminal → relaxing_of t ≡ None → Stops s (node 55 ∷ []) (bad (left s))
relaxing_stops s t first e =
    let side = relaxing_side t e in
    word_stop 55 43 s refl (subst (λ (z : Terminal). predict g.grammar 55 (code_of z) ≡ Some (g.token_on ∷ [])) first side.0) (subst (λ (z : Terminal). (43 == code_of z) ≡ false) first side.1)

-- ---- picking

pub picking_word : (t : Terminal) (x : Picking) → picking_of t ≡ Some x → Chosen 56 t (picking_symbol x)
unfolding g.grammar
picking_word terminal.First x e = let same : pickings.First ≡ x = cc in subst (λ (y : Picking). Chosen 56 terminal.First (picking_symbol y)) same (record { side = refl; symbol = refl; plain = refl })
picking_word terminal.Small x e = let same : pickings.Small ≡ x = cc in subst (λ (y : Picking). Chosen 56 terminal.Small (picking_symbol y)) same (record { side = refl; symbol = refl; plain = refl })
picking_word terminal.Point x e = let same : pickings.Point ≡ x = cc in subst (λ (y : Picking). Chosen 56 terminal.Point (picking_symbol y)) same (record { side = refl; symbol = refl; plain = refl })
picking_word _ x e = absurd (let wrong : None ≡ Some x = e in cc)

pub picking_reads : (s u : Standing) (t : Terminal) (x : Picking) → t ≡ s.first.terminal → picking_of t ≡ Some x → Leads s (leaf (code_of t) ∷ []) (unlisted t) u [] → Leads s (node 56 ∷ []) (picking_then x) u []
picking_reads s u t x first e lead = word_read s u refl first (picking_word t x e) lead

picking_side : (t : Terminal) → picking_of t ≡ None → (predict g.grammar 56 (code_of t) ≡ Some (g.token_first ∷ [])) × ((44 == code_of t) ≡ false)
unfolding g.grammar
picking_side terminal.First e = absurd (let wrong : Some pickings.First ≡ None = e in cc)
picking_side terminal.Small e = absurd (let wrong : Some pickings.Small ≡ None = e in cc)
picking_side terminal.Point e = absurd (let wrong : Some pickings.Point ≡ None = e in cc)
picking_side _ e = (refl, refl)

pub picking_stops : (s : Standing) (t : Terminal) → t ≡ s.first.terminal → picking_of t ≡ None → Stops s (node 56 ∷ []) (bad (left s))
picking_stops s t first e =
    let side = picking_side t e in
    word_stop 56 44 s refl (subst (λ (z : Terminal). predict g.grammar 56 (code_of z) ≡ Some (g.token_first ∷ [])) first side.0) (subst (λ (z : Terminal). (44 == code_of z) ≡ false) first side.1)

-- ---- splitting

pub splitting_word : (t : Terminal) (x : Splitting) → splitting_of t ≡ Some x → Chosen 57 t (splitting_symbol x)
unfolding g.grammar
splitting_word terminal.Half x e = let same : splittings.Half ≡ x = cc in subst (λ (y : Splitting). Chosen 57 terminal.Half (splitting_symbol y)) same (record { side = refl; symbol = refl; plain = refl })
splitting_word terminal.Least x e = let same : splittings.Least ≡ x = cc in subst (λ (y : Splitting). Chosen 57 terminal.Least (splitting_symbol y)) same (record { side = refl; symbol = refl; plain = refl })
splitting_word terminal.Most x e = let same : splittings.Most ≡ x = cc in subst (λ (y : Splitting). Chosen 57 terminal.Most (splitting_symbol y)) same (record { side = refl; symbol = refl; plain = refl })
splitting_word _ x e = absurd (let wrong : None ≡ Some x = e in cc)

pub splitting_reads : (s u : Standing) (t : Terminal) (x : Splitting) → t ≡ s.first.terminal → splitting_of t ≡ Some x → Leads s (leaf (code_of t) ∷ []) (unlisted t) u [] → Leads s (node 57 ∷ []) (splitting_then x) u []
splitting_reads s u t x first e lead = word_read s u refl first (splitting_word t x e) lead

splitting_side : (t : Terminal) → splitting_of t ≡ None → (predict g.grammar 57 (code_of t) ≡ Some (g.token_half ∷ [])) × ((47 == code_of t) ≡ false)
unfolding g.grammar
splitting_side terminal.Half e = absurd (let wrong : Some splittings.Half ≡ None = e in cc)
splitting_side terminal.Least e = absurd (let wrong : Some splittings.Least ≡ None = e in cc)
splitting_side terminal.Most e = absurd (let wrong : Some splittings.Most ≡ None = e in cc)
splitting_side _ e = (refl, refl)

pub splitting_stops : (s : Standing) (t : Terminal) → t ≡ s.first.terminal → splitting_of t ≡ None → Stops s (node 57 ∷ []) (bad (left s))
splitting_stops s t first e =
    let side = splitting_side t e in
    word_stop 57 47 s refl (subst (λ (z : Terminal). predict g.grammar 57 (code_of z) ≡ Some (g.token_half ∷ [])) first side.0) (subst (λ (z : Terminal). (47 == code_of z) ≡ false) first side.1)
