-- The definitions on small texts. Written by bench/meaning_rows.py: what is expected is by hand.
use Rattle.std.proofs.Common.{◌≡◌, refl, codes, ℕ, List, [], ◌∷◌, length, slice_get, true, false, pos, negsuc, Some, None}
use Rattle.sm_syntax.specs.declared.place.Place.{Place}
use Rattle.sm_syntax.specs.declared.tree.Name.{Name}
use Rattle.sm_syntax.specs.declared.tree.Number.{Number}
use Rattle.sm_syntax.specs.declared.tree.Bind.{Bind}
use Rattle.sm_syntax.specs.declared.tree.Sign.TheVariants as sign
use Rattle.sm_syntax.specs.declared.tree.Relation.TheVariants as relation
use Rattle.sm_syntax.specs.declared.tree.LitRelation.TheVariants as test
use Rattle.sm_syntax.specs.declared.tree.Cmp.TheVariants as cmp
use Rattle.sm_syntax.specs.declared.tree.Choosing.TheVariants as choosing
use Rattle.sm_syntax.specs.declared.tree.Level.TheVariants as level
use Rattle.sm_syntax.specs.declared.tree.Relaxing.TheVariants as relaxing
use Rattle.sm_syntax.specs.declared.tree.Picking.TheVariants as picking
use Rattle.sm_syntax.specs.declared.tree.Splitting.TheVariants as splitting
use Rattle.sm_syntax.specs.declared.formula.Quantifier.TheVariants as quantifier
use Rattle.sm_syntax.specs.Expressions as x
use Rattle.sm_syntax.specs.Formulas as f
use Rattle.sm_syntax.specs.Trees as t
use Rattle.sm_data.specs.declared.table.Table.TheVariants as table
use Rattle.sm_data.specs.declared.refusal.Counted.TheVariants as counted
use Rattle.sm_data.specs.Documents.{Entry}
use Rattle.sm_forms.specs.Meanings.{coefficient, constant_of}
use Rattle.sm_meaning.specs.declared.refusal.Wrong.TheVariants as wrong
use Rattle.sm_meaning.specs.declared.refusal.ExpandRefusal.TheVariants.{Meaning, Limit}
use Rattle.sm_meaning.specs.Demands.{Demand, row}
use Rattle.sm_meaning.specs.Expansions.{Expansion, Post}
use Rattle.sm_meaning.specs.Models.{expansion_of, refusal_in}
use Rattle.sm_meaning.proofs.RowParts.{at, name_at, number_at, bind_at, numbers_of_row}

-- satisfy;
abbrev row_0 : t.Tree
row_0 = t.tree (at 1 1) ([]) (t.satisfy (at 1 1))

accepted_0 : refusal_in row_0 ([]) ≡ None
accepted_0 = refl

shown_0 : length (expansion_of row_0 ([])).posts ≡ 0
shown_0 = refl

-- minimise q;
abbrev row_1 : t.Tree
row_1 = t.tree (at 1 1) ([]) (t.aims (at 1 1) (t.minimise (at 1 1) (x.expression (at 1 10) false (x.product (at 1 10) (x.named (at 1 10) (name_at 1 10 (codes "q")) x.no_expressions) x.no_operands) x.no_addends)) ([]))

shown_1 : refusal_in row_1 ([]) ≡ Some (Meaning 1 10 wrong.Unknown)
shown_1 = refl

-- var x : real 0..1; post alldiff(x); satisfy;
abbrev row_2 : t.Tree
row_2 = t.tree (at 1 1) ((t.var_item (at 1 1) (name_at 1 5 (codes "x")) ([]) (t.real_kind (at 1 9) (x.expression (at 1 14) false (x.product (at 1 14) (x.number (at 1 14) (number_at 1 14 0)) x.no_operands) x.no_addends) (x.expression (at 1 17) false (x.product (at 1 17) (x.number (at 1 17) (number_at 1 17 1)) x.no_operands) x.no_addends))) ∷ (t.post_item (at 1 20) None (t.alldiff (at 1 25) (t.listing (at 1 33) (x.expression (at 1 33) false (x.product (at 1 33) (x.named (at 1 33) (name_at 1 33 (codes "x")) x.no_expressions) x.no_operands) x.no_addends) ([]) None)) ([])) ∷ []) (t.satisfy (at 1 37))

shown_2 : refusal_in row_2 ([]) ≡ Some (Meaning 1 33 wrong.Kind)
shown_2 = refl

-- var x : int 0..1; post x*x >= 0; satisfy;
abbrev row_3 : t.Tree
row_3 = t.tree (at 1 1) ((t.var_item (at 1 1) (name_at 1 5 (codes "x")) ([]) (t.int_kind (at 1 9) (x.expression (at 1 13) false (x.product (at 1 13) (x.number (at 1 13) (number_at 1 13 0)) x.no_operands) x.no_addends) (x.expression (at 1 16) false (x.product (at 1 16) (x.number (at 1 16) (number_at 1 16 1)) x.no_operands) x.no_addends))) ∷ (t.post_item (at 1 19) None (t.linear (at 1 24) (x.expression (at 1 24) false (x.product (at 1 24) (x.named (at 1 24) (name_at 1 24 (codes "x")) x.no_expressions) (x.times (x.named (at 1 26) (name_at 1 26 (codes "x")) x.no_expressions) x.no_operands)) x.no_addends) (cmp.AtLeast (at 1 28)) (x.expression (at 1 31) false (x.product (at 1 31) (x.number (at 1 31) (number_at 1 31 0)) x.no_operands) x.no_addends)) ([])) ∷ []) (t.satisfy (at 1 34))

shown_3 : refusal_in row_3 ([]) ≡ Some (Meaning 1 24 wrong.Linear)
shown_3 = refl

-- var x : set 0..1; post 2147483648*x >= 0; satisfy;
abbrev row_4 : t.Tree
row_4 = t.tree (at 1 1) ((t.var_item (at 1 1) (name_at 1 5 (codes "x")) ([]) (t.set_kind (at 1 9) (t.range (x.expression (at 1 13) false (x.product (at 1 13) (x.number (at 1 13) (number_at 1 13 0)) x.no_operands) x.no_addends) (x.expression (at 1 16) false (x.product (at 1 16) (x.number (at 1 16) (number_at 1 16 1)) x.no_operands) x.no_addends)))) ∷ (t.post_item (at 1 19) None (t.linear (at 1 24) (x.expression (at 1 24) false (x.product (at 1 24) (x.number (at 1 24) (number_at 1 24 2147483648)) (x.times (x.named (at 1 35) (name_at 1 35 (codes "x")) x.no_expressions) x.no_operands)) x.no_addends) (cmp.AtLeast (at 1 37)) (x.expression (at 1 40) false (x.product (at 1 40) (x.number (at 1 40) (number_at 1 40 0)) x.no_operands) x.no_addends)) ([])) ∷ []) (t.satisfy (at 1 43))

accepted_4 : refusal_in row_4 ([]) ≡ None
accepted_4 = refl

shown_4 : length (expansion_of row_4 ([])).posts ≡ 1
shown_4 = refl

-- var x : set 0..1; post 2147483649*x >= 0; satisfy;
abbrev row_5 : t.Tree
row_5 = t.tree (at 1 1) ((t.var_item (at 1 1) (name_at 1 5 (codes "x")) ([]) (t.set_kind (at 1 9) (t.range (x.expression (at 1 13) false (x.product (at 1 13) (x.number (at 1 13) (number_at 1 13 0)) x.no_operands) x.no_addends) (x.expression (at 1 16) false (x.product (at 1 16) (x.number (at 1 16) (number_at 1 16 1)) x.no_operands) x.no_addends)))) ∷ (t.post_item (at 1 19) None (t.linear (at 1 24) (x.expression (at 1 24) false (x.product (at 1 24) (x.number (at 1 24) (number_at 1 24 2147483649)) (x.times (x.named (at 1 35) (name_at 1 35 (codes "x")) x.no_expressions) x.no_operands)) x.no_addends) (cmp.AtLeast (at 1 37)) (x.expression (at 1 40) false (x.product (at 1 40) (x.number (at 1 40) (number_at 1 40 0)) x.no_operands) x.no_addends)) ([])) ∷ []) (t.satisfy (at 1 43))

shown_5 : refusal_in row_5 ([]) ≡ Some (Limit counted.Coefficient (pos 2147483649) (pos 2147483648))
shown_5 = refl

-- var x : set 0..4096; satisfy;
abbrev row_6 : t.Tree
row_6 = t.tree (at 1 1) ((t.var_item (at 1 1) (name_at 1 5 (codes "x")) ([]) (t.set_kind (at 1 9) (t.range (x.expression (at 1 13) false (x.product (at 1 13) (x.number (at 1 13) (number_at 1 13 0)) x.no_operands) x.no_addends) (x.expression (at 1 16) false (x.product (at 1 16) (x.number (at 1 16) (number_at 1 16 4096)) x.no_operands) x.no_addends)))) ∷ []) (t.satisfy (at 1 22))

shown_6 : refusal_in row_6 ([]) ≡ Some (Limit counted.Width (pos 4097) (pos 4096))
shown_6 = refl

-- index I = 0..65536; satisfy;
abbrev row_7 : t.Tree
row_7 = t.tree (at 1 1) ((t.index_item (at 1 1) (name_at 1 7 (codes "I")) (x.expression (at 1 11) false (x.product (at 1 11) (x.number (at 1 11) (number_at 1 11 0)) x.no_operands) x.no_addends) (x.expression (at 1 14) false (x.product (at 1 14) (x.number (at 1 14) (number_at 1 14 65536)) x.no_operands) x.no_addends)) ∷ []) (t.satisfy (at 1 21))

shown_7 : refusal_in row_7 ([]) ≡ Some (Limit counted.Size (pos 65537) (pos 65536))
shown_7 = refl

-- index I = 0..999999999999999999*10; satisfy;
abbrev row_8 : t.Tree
row_8 = t.tree (at 1 1) ((t.index_item (at 1 1) (name_at 1 7 (codes "I")) (x.expression (at 1 11) false (x.product (at 1 11) (x.number (at 1 11) (number_at 1 11 0)) x.no_operands) x.no_addends) (x.expression (at 1 14) false (x.product (at 1 14) (x.number (at 1 14) (number_at 1 14 999999999999999999)) (x.times (x.number (at 1 33) (number_at 1 33 10)) x.no_operands)) x.no_addends)) ∷ []) (t.satisfy (at 1 37))

shown_8 : refusal_in row_8 ([]) ≡ Some (Limit counted.Value (pos 9999999999999999990) (pos 4611686018427387904))
shown_8 = refl

-- index I = 0..4096; var x[I] : set 0..0; satisfy;
abbrev row_9 : t.Tree
row_9 = t.tree (at 1 1) ((t.index_item (at 1 1) (name_at 1 7 (codes "I")) (x.expression (at 1 11) false (x.product (at 1 11) (x.number (at 1 11) (number_at 1 11 0)) x.no_operands) x.no_addends) (x.expression (at 1 14) false (x.product (at 1 14) (x.number (at 1 14) (number_at 1 14 4096)) x.no_operands) x.no_addends)) ∷ (t.var_item (at 1 20) (name_at 1 24 (codes "x")) ((name_at 1 26 (codes "I")) ∷ []) (t.set_kind (at 1 31) (t.range (x.expression (at 1 35) false (x.product (at 1 35) (x.number (at 1 35) (number_at 1 35 0)) x.no_operands) x.no_addends) (x.expression (at 1 38) false (x.product (at 1 38) (x.number (at 1 38) (number_at 1 38 0)) x.no_operands) x.no_addends)))) ∷ []) (t.satisfy (at 1 41))

shown_9 : refusal_in row_9 ([]) ≡ Some (Limit counted.Variables (pos 4097) (pos 4096))
shown_9 = refl

-- var s : set 0..4095; post cumulative(1; s, 65536, 1); satisfy;
abbrev row_10 : t.Tree
row_10 = t.tree (at 1 1) ((t.var_item (at 1 1) (name_at 1 5 (codes "s")) ([]) (t.set_kind (at 1 9) (t.range (x.expression (at 1 13) false (x.product (at 1 13) (x.number (at 1 13) (number_at 1 13 0)) x.no_operands) x.no_addends) (x.expression (at 1 16) false (x.product (at 1 16) (x.number (at 1 16) (number_at 1 16 4095)) x.no_operands) x.no_addends)))) ∷ (t.post_item (at 1 22) None (t.cumulative (at 1 27) (x.expression (at 1 38) false (x.product (at 1 38) (x.number (at 1 38) (number_at 1 38 1)) x.no_operands) x.no_addends) ((t.ctask (at 1 41) (x.expression (at 1 41) false (x.product (at 1 41) (x.named (at 1 41) (name_at 1 41 (codes "s")) x.no_expressions) x.no_operands) x.no_addends) (x.expression (at 1 44) false (x.product (at 1 44) (x.number (at 1 44) (number_at 1 44 65536)) x.no_operands) x.no_addends) (x.expression (at 1 51) false (x.product (at 1 51) (x.number (at 1 51) (number_at 1 51 1)) x.no_operands) x.no_addends) None None) ∷ [])) ([])) ∷ []) (t.satisfy (at 1 55))

shown_10 : refusal_in row_10 ([]) ≡ Some (Limit counted.Horizon (pos 69631) (pos 65536))
shown_10 = refl

-- var x : set 0..0; var z : int 0..1; post packing(z; [16385]; [0]; x, 1, [0]); minimise z;
abbrev row_11 : t.Tree
row_11 = t.tree (at 1 1) ((t.var_item (at 1 1) (name_at 1 5 (codes "x")) ([]) (t.set_kind (at 1 9) (t.range (x.expression (at 1 13) false (x.product (at 1 13) (x.number (at 1 13) (number_at 1 13 0)) x.no_operands) x.no_addends) (x.expression (at 1 16) false (x.product (at 1 16) (x.number (at 1 16) (number_at 1 16 0)) x.no_operands) x.no_addends)))) ∷ (t.var_item (at 1 19) (name_at 1 23 (codes "z")) ([]) (t.int_kind (at 1 27) (x.expression (at 1 31) false (x.product (at 1 31) (x.number (at 1 31) (number_at 1 31 0)) x.no_operands) x.no_addends) (x.expression (at 1 34) false (x.product (at 1 34) (x.number (at 1 34) (number_at 1 34 1)) x.no_operands) x.no_addends))) ∷ (t.post_item (at 1 37) None (t.packing (at 1 42) (x.expression (at 1 50) false (x.product (at 1 50) (x.named (at 1 50) (name_at 1 50 (codes "z")) x.no_expressions) x.no_operands) x.no_addends) (t.listing (at 1 54) (x.expression (at 1 54) false (x.product (at 1 54) (x.number (at 1 54) (number_at 1 54 16385)) x.no_operands) x.no_addends) ([]) None) (t.listing (at 1 63) (x.expression (at 1 63) false (x.product (at 1 63) (x.number (at 1 63) (number_at 1 63 0)) x.no_operands) x.no_addends) ([]) None) ((t.load (at 1 67) (x.expression (at 1 67) false (x.product (at 1 67) (x.named (at 1 67) (name_at 1 67 (codes "x")) x.no_expressions) x.no_operands) x.no_addends) (x.expression (at 1 70) false (x.product (at 1 70) (x.number (at 1 70) (number_at 1 70 1)) x.no_operands) x.no_addends) (t.listing (at 1 74) (x.expression (at 1 74) false (x.product (at 1 74) (x.number (at 1 74) (number_at 1 74 0)) x.no_operands) x.no_addends) ([]) None) None) ∷ [])) ([])) ∷ []) (t.aims (at 1 79) (t.minimise (at 1 79) (x.expression (at 1 88) false (x.product (at 1 88) (x.named (at 1 88) (name_at 1 88 (codes "z")) x.no_expressions) x.no_operands) x.no_addends)) ([]))

shown_11 : refusal_in row_11 ([]) ≡ Some (Limit counted.Capacity (pos 16385) (pos 16384))
shown_11 = refl

-- var x : set 0..1; post x >= 0 branch 1000001; satisfy;
abbrev row_12 : t.Tree
row_12 = t.tree (at 1 1) ((t.var_item (at 1 1) (name_at 1 5 (codes "x")) ([]) (t.set_kind (at 1 9) (t.range (x.expression (at 1 13) false (x.product (at 1 13) (x.number (at 1 13) (number_at 1 13 0)) x.no_operands) x.no_addends) (x.expression (at 1 16) false (x.product (at 1 16) (x.number (at 1 16) (number_at 1 16 1)) x.no_operands) x.no_addends)))) ∷ (t.post_item (at 1 19) None (t.linear (at 1 24) (x.expression (at 1 24) false (x.product (at 1 24) (x.named (at 1 24) (name_at 1 24 (codes "x")) x.no_expressions) x.no_operands) x.no_addends) (cmp.AtLeast (at 1 26)) (x.expression (at 1 29) false (x.product (at 1 29) (x.number (at 1 29) (number_at 1 29 0)) x.no_operands) x.no_addends)) ((t.branch (at 1 31) (number_at 1 38 1000001)) ∷ [])) ∷ []) (t.satisfy (at 1 47))

shown_12 : refusal_in row_12 ([]) ≡ Some (Limit counted.Branch (pos 1000001) (pos 1000000))
shown_12 = refl

-- index J = 0..2; var x[J] : set 0..4; post forall i in J, j in J if i < j : x[j] - x[i] >= d[i]; minimise x[2];   with {'d': [1, 2, 0]}
abbrev row_13 : t.Tree
row_13 = t.tree (at 1 1) ((t.index_item (at 1 1) (name_at 1 7 (codes "J")) (x.expression (at 1 11) false (x.product (at 1 11) (x.number (at 1 11) (number_at 1 11 0)) x.no_operands) x.no_addends) (x.expression (at 1 14) false (x.product (at 1 14) (x.number (at 1 14) (number_at 1 14 2)) x.no_operands) x.no_addends)) ∷ (t.var_item (at 1 17) (name_at 1 21 (codes "x")) ((name_at 1 23 (codes "J")) ∷ []) (t.set_kind (at 1 28) (t.range (x.expression (at 1 32) false (x.product (at 1 32) (x.number (at 1 32) (number_at 1 32 0)) x.no_operands) x.no_addends) (x.expression (at 1 35) false (x.product (at 1 35) (x.number (at 1 35) (number_at 1 35 4)) x.no_operands) x.no_addends)))) ∷ (t.post_item (at 1 38) (Some (x.binding (at 1 50) (bind_at (at 1 50) (name_at 1 50 (codes "i")) (name_at 1 55 (codes "J"))) ((bind_at (at 1 58) (name_at 1 58 (codes "j")) (name_at 1 63 (codes "J"))) ∷ []) (x.besides (x.comparison (at 1 68) (x.expression (at 1 68) false (x.product (at 1 68) (x.named (at 1 68) (name_at 1 68 (codes "i")) x.no_expressions) x.no_operands) x.no_addends) relation.Less (x.expression (at 1 72) false (x.product (at 1 72) (x.named (at 1 72) (name_at 1 72 (codes "j")) x.no_expressions) x.no_operands) x.no_addends)) x.no_comparisons))) (t.linear (at 1 76) (x.expression (at 1 76) false (x.product (at 1 76) (x.named (at 1 76) (name_at 1 76 (codes "x")) (x.another (x.expression (at 1 78) false (x.product (at 1 78) (x.named (at 1 78) (name_at 1 78 (codes "j")) x.no_expressions) x.no_operands) x.no_addends) x.no_expressions)) x.no_operands) (x.addend sign.Minus (x.product (at 1 83) (x.named (at 1 83) (name_at 1 83 (codes "x")) (x.another (x.expression (at 1 85) false (x.product (at 1 85) (x.named (at 1 85) (name_at 1 85 (codes "i")) x.no_expressions) x.no_operands) x.no_addends) x.no_expressions)) x.no_operands) x.no_addends)) (cmp.AtLeast (at 1 88)) (x.expression (at 1 91) false (x.product (at 1 91) (x.named (at 1 91) (name_at 1 91 (codes "d")) (x.another (x.expression (at 1 93) false (x.product (at 1 93) (x.named (at 1 93) (name_at 1 93 (codes "i")) x.no_expressions) x.no_operands) x.no_addends) x.no_expressions)) x.no_operands) x.no_addends)) ([])) ∷ []) (t.aims (at 1 97) (t.minimise (at 1 97) (x.expression (at 1 106) false (x.product (at 1 106) (x.named (at 1 106) (name_at 1 106 (codes "x")) (x.another (x.expression (at 1 108) false (x.product (at 1 108) (x.number (at 1 108) (number_at 1 108 2)) x.no_operands) x.no_addends) x.no_expressions)) x.no_operands) x.no_addends)) ([]))

accepted_13 : refusal_in row_13 (((codes "d"), table.List ((pos 1) ∷ (pos 2) ∷ (pos 0) ∷ [])) ∷ []) ≡ None
accepted_13 = refl

shown_13 : length (expansion_of row_13 (((codes "d"), table.List ((pos 1) ∷ (pos 2) ∷ (pos 0) ∷ [])) ∷ [])).posts ≡ 3
shown_13 = refl

-- index J = 0..2; var x[J] : set 0..4; post forall i in J, j in J if i < j : x[j] - x[i] >= d[i]; minimise x[2];   with {'d': [1, 2, 0]}
abbrev row_14 : t.Tree
row_14 = t.tree (at 1 1) ((t.index_item (at 1 1) (name_at 1 7 (codes "J")) (x.expression (at 1 11) false (x.product (at 1 11) (x.number (at 1 11) (number_at 1 11 0)) x.no_operands) x.no_addends) (x.expression (at 1 14) false (x.product (at 1 14) (x.number (at 1 14) (number_at 1 14 2)) x.no_operands) x.no_addends)) ∷ (t.var_item (at 1 17) (name_at 1 21 (codes "x")) ((name_at 1 23 (codes "J")) ∷ []) (t.set_kind (at 1 28) (t.range (x.expression (at 1 32) false (x.product (at 1 32) (x.number (at 1 32) (number_at 1 32 0)) x.no_operands) x.no_addends) (x.expression (at 1 35) false (x.product (at 1 35) (x.number (at 1 35) (number_at 1 35 4)) x.no_operands) x.no_addends)))) ∷ (t.post_item (at 1 38) (Some (x.binding (at 1 50) (bind_at (at 1 50) (name_at 1 50 (codes "i")) (name_at 1 55 (codes "J"))) ((bind_at (at 1 58) (name_at 1 58 (codes "j")) (name_at 1 63 (codes "J"))) ∷ []) (x.besides (x.comparison (at 1 68) (x.expression (at 1 68) false (x.product (at 1 68) (x.named (at 1 68) (name_at 1 68 (codes "i")) x.no_expressions) x.no_operands) x.no_addends) relation.Less (x.expression (at 1 72) false (x.product (at 1 72) (x.named (at 1 72) (name_at 1 72 (codes "j")) x.no_expressions) x.no_operands) x.no_addends)) x.no_comparisons))) (t.linear (at 1 76) (x.expression (at 1 76) false (x.product (at 1 76) (x.named (at 1 76) (name_at 1 76 (codes "x")) (x.another (x.expression (at 1 78) false (x.product (at 1 78) (x.named (at 1 78) (name_at 1 78 (codes "j")) x.no_expressions) x.no_operands) x.no_addends) x.no_expressions)) x.no_operands) (x.addend sign.Minus (x.product (at 1 83) (x.named (at 1 83) (name_at 1 83 (codes "x")) (x.another (x.expression (at 1 85) false (x.product (at 1 85) (x.named (at 1 85) (name_at 1 85 (codes "i")) x.no_expressions) x.no_operands) x.no_addends) x.no_expressions)) x.no_operands) x.no_addends)) (cmp.AtLeast (at 1 88)) (x.expression (at 1 91) false (x.product (at 1 91) (x.named (at 1 91) (name_at 1 91 (codes "d")) (x.another (x.expression (at 1 93) false (x.product (at 1 93) (x.named (at 1 93) (name_at 1 93 (codes "i")) x.no_expressions) x.no_operands) x.no_addends) x.no_expressions)) x.no_operands) x.no_addends)) ([])) ∷ []) (t.aims (at 1 97) (t.minimise (at 1 97) (x.expression (at 1 106) false (x.product (at 1 106) (x.named (at 1 106) (name_at 1 106 (codes "x")) (x.another (x.expression (at 1 108) false (x.product (at 1 108) (x.number (at 1 108) (number_at 1 108 2)) x.no_operands) x.no_addends) x.no_expressions)) x.no_operands) x.no_addends)) ([]))

accepted_14 : refusal_in row_14 (((codes "d"), table.List ((pos 1) ∷ (pos 2) ∷ (pos 0) ∷ [])) ∷ []) ≡ None
accepted_14 = refl

shown_14 : numbers_of_row 3 (slice_get (expansion_of row_14 (((codes "d"), table.List ((pos 1) ∷ (pos 2) ∷ (pos 0) ∷ [])) ∷ [])).posts 1) ≡ ((negsuc 0) ∷ (pos 0) ∷ (pos 1) ∷ (negsuc 0) ∷ [])
shown_14 = refl

-- var x : set 0..1; var x : set 0..1; satisfy;
abbrev row_15 : t.Tree
row_15 = t.tree (at 1 1) ((t.var_item (at 1 1) (name_at 1 5 (codes "x")) ([]) (t.set_kind (at 1 9) (t.range (x.expression (at 1 13) false (x.product (at 1 13) (x.number (at 1 13) (number_at 1 13 0)) x.no_operands) x.no_addends) (x.expression (at 1 16) false (x.product (at 1 16) (x.number (at 1 16) (number_at 1 16 1)) x.no_operands) x.no_addends)))) ∷ (t.var_item (at 1 19) (name_at 1 23 (codes "x")) ([]) (t.set_kind (at 1 27) (t.range (x.expression (at 1 31) false (x.product (at 1 31) (x.number (at 1 31) (number_at 1 31 0)) x.no_operands) x.no_addends) (x.expression (at 1 34) false (x.product (at 1 34) (x.number (at 1 34) (number_at 1 34 1)) x.no_operands) x.no_addends)))) ∷ []) (t.satisfy (at 1 37))

shown_15 : refusal_in row_15 ([]) ≡ Some (Meaning 1 23 wrong.Doubled)
shown_15 = refl

-- index d = 0..1; satisfy;   with {'d': 3}
abbrev row_16 : t.Tree
row_16 = t.tree (at 1 1) ((t.index_item (at 1 1) (name_at 1 7 (codes "d")) (x.expression (at 1 11) false (x.product (at 1 11) (x.number (at 1 11) (number_at 1 11 0)) x.no_operands) x.no_addends) (x.expression (at 1 14) false (x.product (at 1 14) (x.number (at 1 14) (number_at 1 14 1)) x.no_operands) x.no_addends)) ∷ []) (t.satisfy (at 1 17))

shown_16 : refusal_in row_16 (((codes "d"), table.Number (pos 3)) ∷ []) ≡ Some (Meaning 1 7 wrong.Doubled)
shown_16 = refl

-- index N = 0..1; var x : set 0..1; post forall x in N : 1 >= 0; satisfy;
abbrev row_17 : t.Tree
row_17 = t.tree (at 1 1) ((t.index_item (at 1 1) (name_at 1 7 (codes "N")) (x.expression (at 1 11) false (x.product (at 1 11) (x.number (at 1 11) (number_at 1 11 0)) x.no_operands) x.no_addends) (x.expression (at 1 14) false (x.product (at 1 14) (x.number (at 1 14) (number_at 1 14 1)) x.no_operands) x.no_addends)) ∷ (t.var_item (at 1 17) (name_at 1 21 (codes "x")) ([]) (t.set_kind (at 1 25) (t.range (x.expression (at 1 29) false (x.product (at 1 29) (x.number (at 1 29) (number_at 1 29 0)) x.no_operands) x.no_addends) (x.expression (at 1 32) false (x.product (at 1 32) (x.number (at 1 32) (number_at 1 32 1)) x.no_operands) x.no_addends)))) ∷ (t.post_item (at 1 35) (Some (x.binding (at 1 47) (bind_at (at 1 47) (name_at 1 47 (codes "x")) (name_at 1 52 (codes "N"))) ([]) x.no_comparisons)) (t.linear (at 1 56) (x.expression (at 1 56) false (x.product (at 1 56) (x.number (at 1 56) (number_at 1 56 1)) x.no_operands) x.no_addends) (cmp.AtLeast (at 1 58)) (x.expression (at 1 61) false (x.product (at 1 61) (x.number (at 1 61) (number_at 1 61 0)) x.no_operands) x.no_addends)) ([])) ∷ []) (t.satisfy (at 1 64))

shown_17 : refusal_in row_17 ([]) ≡ Some (Meaning 1 47 wrong.Doubled)
shown_17 = refl

-- index N = 0..1; post forall i in N, i in N : 1 >= 0; satisfy;
abbrev row_18 : t.Tree
row_18 = t.tree (at 1 1) ((t.index_item (at 1 1) (name_at 1 7 (codes "N")) (x.expression (at 1 11) false (x.product (at 1 11) (x.number (at 1 11) (number_at 1 11 0)) x.no_operands) x.no_addends) (x.expression (at 1 14) false (x.product (at 1 14) (x.number (at 1 14) (number_at 1 14 1)) x.no_operands) x.no_addends)) ∷ (t.post_item (at 1 17) (Some (x.binding (at 1 29) (bind_at (at 1 29) (name_at 1 29 (codes "i")) (name_at 1 34 (codes "N"))) ((bind_at (at 1 37) (name_at 1 37 (codes "i")) (name_at 1 42 (codes "N"))) ∷ []) x.no_comparisons)) (t.linear (at 1 46) (x.expression (at 1 46) false (x.product (at 1 46) (x.number (at 1 46) (number_at 1 46 1)) x.no_operands) x.no_addends) (cmp.AtLeast (at 1 48)) (x.expression (at 1 51) false (x.product (at 1 51) (x.number (at 1 51) (number_at 1 51 0)) x.no_operands) x.no_addends)) ([])) ∷ []) (t.satisfy (at 1 54))

shown_18 : refusal_in row_18 ([]) ≡ Some (Meaning 1 37 wrong.Doubled)
shown_18 = refl

-- index N = 0..1; post forall i in N, j in i : 1 >= 0; satisfy;
abbrev row_19 : t.Tree
row_19 = t.tree (at 1 1) ((t.index_item (at 1 1) (name_at 1 7 (codes "N")) (x.expression (at 1 11) false (x.product (at 1 11) (x.number (at 1 11) (number_at 1 11 0)) x.no_operands) x.no_addends) (x.expression (at 1 14) false (x.product (at 1 14) (x.number (at 1 14) (number_at 1 14 1)) x.no_operands) x.no_addends)) ∷ (t.post_item (at 1 17) (Some (x.binding (at 1 29) (bind_at (at 1 29) (name_at 1 29 (codes "i")) (name_at 1 34 (codes "N"))) ((bind_at (at 1 37) (name_at 1 37 (codes "j")) (name_at 1 42 (codes "i"))) ∷ []) x.no_comparisons)) (t.linear (at 1 46) (x.expression (at 1 46) false (x.product (at 1 46) (x.number (at 1 46) (number_at 1 46 1)) x.no_operands) x.no_addends) (cmp.AtLeast (at 1 48)) (x.expression (at 1 51) false (x.product (at 1 51) (x.number (at 1 51) (number_at 1 51 0)) x.no_operands) x.no_addends)) ([])) ∷ []) (t.satisfy (at 1 54))

shown_19 : refusal_in row_19 ([]) ≡ Some (Meaning 1 42 wrong.Shape)
shown_19 = refl

-- index N = 0..1; post forall i in M : 1 >= 0; satisfy;
abbrev row_20 : t.Tree
row_20 = t.tree (at 1 1) ((t.index_item (at 1 1) (name_at 1 7 (codes "N")) (x.expression (at 1 11) false (x.product (at 1 11) (x.number (at 1 11) (number_at 1 11 0)) x.no_operands) x.no_addends) (x.expression (at 1 14) false (x.product (at 1 14) (x.number (at 1 14) (number_at 1 14 1)) x.no_operands) x.no_addends)) ∷ (t.post_item (at 1 17) (Some (x.binding (at 1 29) (bind_at (at 1 29) (name_at 1 29 (codes "i")) (name_at 1 34 (codes "M"))) ([]) x.no_comparisons)) (t.linear (at 1 38) (x.expression (at 1 38) false (x.product (at 1 38) (x.number (at 1 38) (number_at 1 38 1)) x.no_operands) x.no_addends) (cmp.AtLeast (at 1 40)) (x.expression (at 1 43) false (x.product (at 1 43) (x.number (at 1 43) (number_at 1 43 0)) x.no_operands) x.no_addends)) ([])) ∷ []) (t.satisfy (at 1 46))

shown_20 : refusal_in row_20 ([]) ≡ Some (Meaning 1 34 wrong.Unknown)
shown_20 = refl

-- index N = 0..1; post N >= 0; satisfy;
abbrev row_21 : t.Tree
row_21 = t.tree (at 1 1) ((t.index_item (at 1 1) (name_at 1 7 (codes "N")) (x.expression (at 1 11) false (x.product (at 1 11) (x.number (at 1 11) (number_at 1 11 0)) x.no_operands) x.no_addends) (x.expression (at 1 14) false (x.product (at 1 14) (x.number (at 1 14) (number_at 1 14 1)) x.no_operands) x.no_addends)) ∷ (t.post_item (at 1 17) None (t.linear (at 1 22) (x.expression (at 1 22) false (x.product (at 1 22) (x.named (at 1 22) (name_at 1 22 (codes "N")) x.no_expressions) x.no_operands) x.no_addends) (cmp.AtLeast (at 1 24)) (x.expression (at 1 27) false (x.product (at 1 27) (x.number (at 1 27) (number_at 1 27 0)) x.no_operands) x.no_addends)) ([])) ∷ []) (t.satisfy (at 1 30))

shown_21 : refusal_in row_21 ([]) ≡ Some (Meaning 1 22 wrong.Shape)
shown_21 = refl

-- index N = 0..1; var x[N] : set 0..1; post x >= 0; satisfy;
abbrev row_22 : t.Tree
row_22 = t.tree (at 1 1) ((t.index_item (at 1 1) (name_at 1 7 (codes "N")) (x.expression (at 1 11) false (x.product (at 1 11) (x.number (at 1 11) (number_at 1 11 0)) x.no_operands) x.no_addends) (x.expression (at 1 14) false (x.product (at 1 14) (x.number (at 1 14) (number_at 1 14 1)) x.no_operands) x.no_addends)) ∷ (t.var_item (at 1 17) (name_at 1 21 (codes "x")) ((name_at 1 23 (codes "N")) ∷ []) (t.set_kind (at 1 28) (t.range (x.expression (at 1 32) false (x.product (at 1 32) (x.number (at 1 32) (number_at 1 32 0)) x.no_operands) x.no_addends) (x.expression (at 1 35) false (x.product (at 1 35) (x.number (at 1 35) (number_at 1 35 1)) x.no_operands) x.no_addends)))) ∷ (t.post_item (at 1 38) None (t.linear (at 1 43) (x.expression (at 1 43) false (x.product (at 1 43) (x.named (at 1 43) (name_at 1 43 (codes "x")) x.no_expressions) x.no_operands) x.no_addends) (cmp.AtLeast (at 1 45)) (x.expression (at 1 48) false (x.product (at 1 48) (x.number (at 1 48) (number_at 1 48 0)) x.no_operands) x.no_addends)) ([])) ∷ []) (t.satisfy (at 1 51))

shown_22 : refusal_in row_22 ([]) ≡ Some (Meaning 1 43 wrong.Shape)
shown_22 = refl

-- index N = 0..1; var x[N] : set 0..1; post x[0, 1] >= 0; satisfy;
abbrev row_23 : t.Tree
row_23 = t.tree (at 1 1) ((t.index_item (at 1 1) (name_at 1 7 (codes "N")) (x.expression (at 1 11) false (x.product (at 1 11) (x.number (at 1 11) (number_at 1 11 0)) x.no_operands) x.no_addends) (x.expression (at 1 14) false (x.product (at 1 14) (x.number (at 1 14) (number_at 1 14 1)) x.no_operands) x.no_addends)) ∷ (t.var_item (at 1 17) (name_at 1 21 (codes "x")) ((name_at 1 23 (codes "N")) ∷ []) (t.set_kind (at 1 28) (t.range (x.expression (at 1 32) false (x.product (at 1 32) (x.number (at 1 32) (number_at 1 32 0)) x.no_operands) x.no_addends) (x.expression (at 1 35) false (x.product (at 1 35) (x.number (at 1 35) (number_at 1 35 1)) x.no_operands) x.no_addends)))) ∷ (t.post_item (at 1 38) None (t.linear (at 1 43) (x.expression (at 1 43) false (x.product (at 1 43) (x.named (at 1 43) (name_at 1 43 (codes "x")) (x.another (x.expression (at 1 45) false (x.product (at 1 45) (x.number (at 1 45) (number_at 1 45 0)) x.no_operands) x.no_addends) (x.another (x.expression (at 1 48) false (x.product (at 1 48) (x.number (at 1 48) (number_at 1 48 1)) x.no_operands) x.no_addends) x.no_expressions))) x.no_operands) x.no_addends) (cmp.AtLeast (at 1 51)) (x.expression (at 1 54) false (x.product (at 1 54) (x.number (at 1 54) (number_at 1 54 0)) x.no_operands) x.no_addends)) ([])) ∷ []) (t.satisfy (at 1 57))

shown_23 : refusal_in row_23 ([]) ≡ Some (Meaning 1 43 wrong.Shape)
shown_23 = refl

-- index N = 0..1; var x[N] : set 0..1; post x[2] >= 0; satisfy;
abbrev row_24 : t.Tree
row_24 = t.tree (at 1 1) ((t.index_item (at 1 1) (name_at 1 7 (codes "N")) (x.expression (at 1 11) false (x.product (at 1 11) (x.number (at 1 11) (number_at 1 11 0)) x.no_operands) x.no_addends) (x.expression (at 1 14) false (x.product (at 1 14) (x.number (at 1 14) (number_at 1 14 1)) x.no_operands) x.no_addends)) ∷ (t.var_item (at 1 17) (name_at 1 21 (codes "x")) ((name_at 1 23 (codes "N")) ∷ []) (t.set_kind (at 1 28) (t.range (x.expression (at 1 32) false (x.product (at 1 32) (x.number (at 1 32) (number_at 1 32 0)) x.no_operands) x.no_addends) (x.expression (at 1 35) false (x.product (at 1 35) (x.number (at 1 35) (number_at 1 35 1)) x.no_operands) x.no_addends)))) ∷ (t.post_item (at 1 38) None (t.linear (at 1 43) (x.expression (at 1 43) false (x.product (at 1 43) (x.named (at 1 43) (name_at 1 43 (codes "x")) (x.another (x.expression (at 1 45) false (x.product (at 1 45) (x.number (at 1 45) (number_at 1 45 2)) x.no_operands) x.no_addends) x.no_expressions)) x.no_operands) x.no_addends) (cmp.AtLeast (at 1 48)) (x.expression (at 1 51) false (x.product (at 1 51) (x.number (at 1 51) (number_at 1 51 0)) x.no_operands) x.no_addends)) ([])) ∷ []) (t.satisfy (at 1 54))

shown_24 : refusal_in row_24 ([]) ≡ Some (Meaning 1 45 wrong.Index)
shown_24 = refl

-- index N = 1..2; var x[N] : set 0..1; post x[2] - x[1] >= 0; satisfy;
abbrev row_25 : t.Tree
row_25 = t.tree (at 1 1) ((t.index_item (at 1 1) (name_at 1 7 (codes "N")) (x.expression (at 1 11) false (x.product (at 1 11) (x.number (at 1 11) (number_at 1 11 1)) x.no_operands) x.no_addends) (x.expression (at 1 14) false (x.product (at 1 14) (x.number (at 1 14) (number_at 1 14 2)) x.no_operands) x.no_addends)) ∷ (t.var_item (at 1 17) (name_at 1 21 (codes "x")) ((name_at 1 23 (codes "N")) ∷ []) (t.set_kind (at 1 28) (t.range (x.expression (at 1 32) false (x.product (at 1 32) (x.number (at 1 32) (number_at 1 32 0)) x.no_operands) x.no_addends) (x.expression (at 1 35) false (x.product (at 1 35) (x.number (at 1 35) (number_at 1 35 1)) x.no_operands) x.no_addends)))) ∷ (t.post_item (at 1 38) None (t.linear (at 1 43) (x.expression (at 1 43) false (x.product (at 1 43) (x.named (at 1 43) (name_at 1 43 (codes "x")) (x.another (x.expression (at 1 45) false (x.product (at 1 45) (x.number (at 1 45) (number_at 1 45 2)) x.no_operands) x.no_addends) x.no_expressions)) x.no_operands) (x.addend sign.Minus (x.product (at 1 50) (x.named (at 1 50) (name_at 1 50 (codes "x")) (x.another (x.expression (at 1 52) false (x.product (at 1 52) (x.number (at 1 52) (number_at 1 52 1)) x.no_operands) x.no_addends) x.no_expressions)) x.no_operands) x.no_addends)) (cmp.AtLeast (at 1 55)) (x.expression (at 1 58) false (x.product (at 1 58) (x.number (at 1 58) (number_at 1 58 0)) x.no_operands) x.no_addends)) ([])) ∷ []) (t.satisfy (at 1 61))

accepted_25 : refusal_in row_25 ([]) ≡ None
accepted_25 = refl

shown_25 : numbers_of_row 2 (slice_get (expansion_of row_25 ([])).posts 0) ≡ ((negsuc 0) ∷ (pos 1) ∷ (pos 0) ∷ [])
shown_25 = refl

-- index N = 0..1; var x[N] : set 0..1; post x[x[0]] >= 0; satisfy;
abbrev row_26 : t.Tree
row_26 = t.tree (at 1 1) ((t.index_item (at 1 1) (name_at 1 7 (codes "N")) (x.expression (at 1 11) false (x.product (at 1 11) (x.number (at 1 11) (number_at 1 11 0)) x.no_operands) x.no_addends) (x.expression (at 1 14) false (x.product (at 1 14) (x.number (at 1 14) (number_at 1 14 1)) x.no_operands) x.no_addends)) ∷ (t.var_item (at 1 17) (name_at 1 21 (codes "x")) ((name_at 1 23 (codes "N")) ∷ []) (t.set_kind (at 1 28) (t.range (x.expression (at 1 32) false (x.product (at 1 32) (x.number (at 1 32) (number_at 1 32 0)) x.no_operands) x.no_addends) (x.expression (at 1 35) false (x.product (at 1 35) (x.number (at 1 35) (number_at 1 35 1)) x.no_operands) x.no_addends)))) ∷ (t.post_item (at 1 38) None (t.linear (at 1 43) (x.expression (at 1 43) false (x.product (at 1 43) (x.named (at 1 43) (name_at 1 43 (codes "x")) (x.another (x.expression (at 1 45) false (x.product (at 1 45) (x.named (at 1 45) (name_at 1 45 (codes "x")) (x.another (x.expression (at 1 47) false (x.product (at 1 47) (x.number (at 1 47) (number_at 1 47 0)) x.no_operands) x.no_addends) x.no_expressions)) x.no_operands) x.no_addends) x.no_expressions)) x.no_operands) x.no_addends) (cmp.AtLeast (at 1 51)) (x.expression (at 1 54) false (x.product (at 1 54) (x.number (at 1 54) (number_at 1 54 0)) x.no_operands) x.no_addends)) ([])) ∷ []) (t.satisfy (at 1 57))

shown_26 : refusal_in row_26 ([]) ≡ Some (Meaning 1 45 wrong.Whole)
shown_26 = refl

-- var x : set 0..1; post x >= d[3]; satisfy;   with {'d': [1, 2, 0]}
abbrev row_27 : t.Tree
row_27 = t.tree (at 1 1) ((t.var_item (at 1 1) (name_at 1 5 (codes "x")) ([]) (t.set_kind (at 1 9) (t.range (x.expression (at 1 13) false (x.product (at 1 13) (x.number (at 1 13) (number_at 1 13 0)) x.no_operands) x.no_addends) (x.expression (at 1 16) false (x.product (at 1 16) (x.number (at 1 16) (number_at 1 16 1)) x.no_operands) x.no_addends)))) ∷ (t.post_item (at 1 19) None (t.linear (at 1 24) (x.expression (at 1 24) false (x.product (at 1 24) (x.named (at 1 24) (name_at 1 24 (codes "x")) x.no_expressions) x.no_operands) x.no_addends) (cmp.AtLeast (at 1 26)) (x.expression (at 1 29) false (x.product (at 1 29) (x.named (at 1 29) (name_at 1 29 (codes "d")) (x.another (x.expression (at 1 31) false (x.product (at 1 31) (x.number (at 1 31) (number_at 1 31 3)) x.no_operands) x.no_addends) x.no_expressions)) x.no_operands) x.no_addends)) ([])) ∷ []) (t.satisfy (at 1 35))

shown_27 : refusal_in row_27 (((codes "d"), table.List ((pos 1) ∷ (pos 2) ∷ (pos 0) ∷ [])) ∷ []) ≡ Some (Meaning 1 31 wrong.Index)
shown_27 = refl

-- var x : set 0..1; post x >= d[1, 0]; satisfy;   with {'d': [[1, 2], [3, 4]]}
abbrev row_28 : t.Tree
row_28 = t.tree (at 1 1) ((t.var_item (at 1 1) (name_at 1 5 (codes "x")) ([]) (t.set_kind (at 1 9) (t.range (x.expression (at 1 13) false (x.product (at 1 13) (x.number (at 1 13) (number_at 1 13 0)) x.no_operands) x.no_addends) (x.expression (at 1 16) false (x.product (at 1 16) (x.number (at 1 16) (number_at 1 16 1)) x.no_operands) x.no_addends)))) ∷ (t.post_item (at 1 19) None (t.linear (at 1 24) (x.expression (at 1 24) false (x.product (at 1 24) (x.named (at 1 24) (name_at 1 24 (codes "x")) x.no_expressions) x.no_operands) x.no_addends) (cmp.AtLeast (at 1 26)) (x.expression (at 1 29) false (x.product (at 1 29) (x.named (at 1 29) (name_at 1 29 (codes "d")) (x.another (x.expression (at 1 31) false (x.product (at 1 31) (x.number (at 1 31) (number_at 1 31 1)) x.no_operands) x.no_addends) (x.another (x.expression (at 1 34) false (x.product (at 1 34) (x.number (at 1 34) (number_at 1 34 0)) x.no_operands) x.no_addends) x.no_expressions))) x.no_operands) x.no_addends)) ([])) ∷ []) (t.satisfy (at 1 38))

accepted_28 : refusal_in row_28 (((codes "d"), table.Grid (((pos 1) ∷ (pos 2) ∷ []) ∷ ((pos 3) ∷ (pos 4) ∷ []) ∷ [])) ∷ []) ≡ None
accepted_28 = refl

shown_28 : numbers_of_row 1 (slice_get (expansion_of row_28 (((codes "d"), table.Grid (((pos 1) ∷ (pos 2) ∷ []) ∷ ((pos 3) ∷ (pos 4) ∷ []) ∷ [])) ∷ [])).posts 0) ≡ ((pos 1) ∷ (negsuc 2) ∷ [])
shown_28 = refl

-- var x : set 0..1; post 0*x*x >= 0; satisfy;
abbrev row_29 : t.Tree
row_29 = t.tree (at 1 1) ((t.var_item (at 1 1) (name_at 1 5 (codes "x")) ([]) (t.set_kind (at 1 9) (t.range (x.expression (at 1 13) false (x.product (at 1 13) (x.number (at 1 13) (number_at 1 13 0)) x.no_operands) x.no_addends) (x.expression (at 1 16) false (x.product (at 1 16) (x.number (at 1 16) (number_at 1 16 1)) x.no_operands) x.no_addends)))) ∷ (t.post_item (at 1 19) None (t.linear (at 1 24) (x.expression (at 1 24) false (x.product (at 1 24) (x.number (at 1 24) (number_at 1 24 0)) (x.times (x.named (at 1 26) (name_at 1 26 (codes "x")) x.no_expressions) (x.times (x.named (at 1 28) (name_at 1 28 (codes "x")) x.no_expressions) x.no_operands))) x.no_addends) (cmp.AtLeast (at 1 30)) (x.expression (at 1 33) false (x.product (at 1 33) (x.number (at 1 33) (number_at 1 33 0)) x.no_operands) x.no_addends)) ([])) ∷ []) (t.satisfy (at 1 36))

shown_29 : refusal_in row_29 ([]) ≡ Some (Meaning 1 24 wrong.Linear)
shown_29 = refl

-- var x : set 0..1; post (0*x)*x >= 0; satisfy;
abbrev row_30 : t.Tree
row_30 = t.tree (at 1 1) ((t.var_item (at 1 1) (name_at 1 5 (codes "x")) ([]) (t.set_kind (at 1 9) (t.range (x.expression (at 1 13) false (x.product (at 1 13) (x.number (at 1 13) (number_at 1 13 0)) x.no_operands) x.no_addends) (x.expression (at 1 16) false (x.product (at 1 16) (x.number (at 1 16) (number_at 1 16 1)) x.no_operands) x.no_addends)))) ∷ (t.post_item (at 1 19) None (t.linear (at 1 24) (x.expression (at 1 24) false (x.product (at 1 24) (x.group (at 1 24) (x.expression (at 1 25) false (x.product (at 1 25) (x.number (at 1 25) (number_at 1 25 0)) (x.times (x.named (at 1 27) (name_at 1 27 (codes "x")) x.no_expressions) x.no_operands)) x.no_addends)) (x.times (x.named (at 1 30) (name_at 1 30 (codes "x")) x.no_expressions) x.no_operands)) x.no_addends) (cmp.AtLeast (at 1 32)) (x.expression (at 1 35) false (x.product (at 1 35) (x.number (at 1 35) (number_at 1 35 0)) x.no_operands) x.no_addends)) ([])) ∷ []) (t.satisfy (at 1 38))

accepted_30 : refusal_in row_30 ([]) ≡ None
accepted_30 = refl

shown_30 : numbers_of_row 1 (slice_get (expansion_of row_30 ([])).posts 0) ≡ ((pos 0) ∷ (pos 0) ∷ [])
shown_30 = refl

-- var x : set 0..1; post 2*(3 - x)*4 >= x; satisfy;
abbrev row_31 : t.Tree
row_31 = t.tree (at 1 1) ((t.var_item (at 1 1) (name_at 1 5 (codes "x")) ([]) (t.set_kind (at 1 9) (t.range (x.expression (at 1 13) false (x.product (at 1 13) (x.number (at 1 13) (number_at 1 13 0)) x.no_operands) x.no_addends) (x.expression (at 1 16) false (x.product (at 1 16) (x.number (at 1 16) (number_at 1 16 1)) x.no_operands) x.no_addends)))) ∷ (t.post_item (at 1 19) None (t.linear (at 1 24) (x.expression (at 1 24) false (x.product (at 1 24) (x.number (at 1 24) (number_at 1 24 2)) (x.times (x.group (at 1 26) (x.expression (at 1 27) false (x.product (at 1 27) (x.number (at 1 27) (number_at 1 27 3)) x.no_operands) (x.addend sign.Minus (x.product (at 1 31) (x.named (at 1 31) (name_at 1 31 (codes "x")) x.no_expressions) x.no_operands) x.no_addends))) (x.times (x.number (at 1 34) (number_at 1 34 4)) x.no_operands))) x.no_addends) (cmp.AtLeast (at 1 36)) (x.expression (at 1 39) false (x.product (at 1 39) (x.named (at 1 39) (name_at 1 39 (codes "x")) x.no_expressions) x.no_operands) x.no_addends)) ([])) ∷ []) (t.satisfy (at 1 42))

accepted_31 : refusal_in row_31 ([]) ≡ None
accepted_31 = refl

shown_31 : numbers_of_row 1 (slice_get (expansion_of row_31 ([])).posts 0) ≡ ((negsuc 8) ∷ (pos 24) ∷ [])
shown_31 = refl

-- var a : set 0..1; var b : set 0..1; var c : set 0..1; post a - (b - c) >= 0; satisfy;
abbrev row_32 : t.Tree
row_32 = t.tree (at 1 1) ((t.var_item (at 1 1) (name_at 1 5 (codes "a")) ([]) (t.set_kind (at 1 9) (t.range (x.expression (at 1 13) false (x.product (at 1 13) (x.number (at 1 13) (number_at 1 13 0)) x.no_operands) x.no_addends) (x.expression (at 1 16) false (x.product (at 1 16) (x.number (at 1 16) (number_at 1 16 1)) x.no_operands) x.no_addends)))) ∷ (t.var_item (at 1 19) (name_at 1 23 (codes "b")) ([]) (t.set_kind (at 1 27) (t.range (x.expression (at 1 31) false (x.product (at 1 31) (x.number (at 1 31) (number_at 1 31 0)) x.no_operands) x.no_addends) (x.expression (at 1 34) false (x.product (at 1 34) (x.number (at 1 34) (number_at 1 34 1)) x.no_operands) x.no_addends)))) ∷ (t.var_item (at 1 37) (name_at 1 41 (codes "c")) ([]) (t.set_kind (at 1 45) (t.range (x.expression (at 1 49) false (x.product (at 1 49) (x.number (at 1 49) (number_at 1 49 0)) x.no_operands) x.no_addends) (x.expression (at 1 52) false (x.product (at 1 52) (x.number (at 1 52) (number_at 1 52 1)) x.no_operands) x.no_addends)))) ∷ (t.post_item (at 1 55) None (t.linear (at 1 60) (x.expression (at 1 60) false (x.product (at 1 60) (x.named (at 1 60) (name_at 1 60 (codes "a")) x.no_expressions) x.no_operands) (x.addend sign.Minus (x.product (at 1 64) (x.group (at 1 64) (x.expression (at 1 65) false (x.product (at 1 65) (x.named (at 1 65) (name_at 1 65 (codes "b")) x.no_expressions) x.no_operands) (x.addend sign.Minus (x.product (at 1 69) (x.named (at 1 69) (name_at 1 69 (codes "c")) x.no_expressions) x.no_operands) x.no_addends))) x.no_operands) x.no_addends)) (cmp.AtLeast (at 1 72)) (x.expression (at 1 75) false (x.product (at 1 75) (x.number (at 1 75) (number_at 1 75 0)) x.no_operands) x.no_addends)) ([])) ∷ []) (t.satisfy (at 1 78))

accepted_32 : refusal_in row_32 ([]) ≡ None
accepted_32 = refl

shown_32 : numbers_of_row 3 (slice_get (expansion_of row_32 ([])).posts 0) ≡ ((pos 1) ∷ (negsuc 0) ∷ (pos 1) ∷ (pos 0) ∷ [])
shown_32 = refl

-- var y : real 0..1; var x : set 0..1; post logic [y - y + x <= 1]; satisfy;
abbrev row_33 : t.Tree
row_33 = t.tree (at 1 1) ((t.var_item (at 1 1) (name_at 1 5 (codes "y")) ([]) (t.real_kind (at 1 9) (x.expression (at 1 14) false (x.product (at 1 14) (x.number (at 1 14) (number_at 1 14 0)) x.no_operands) x.no_addends) (x.expression (at 1 17) false (x.product (at 1 17) (x.number (at 1 17) (number_at 1 17 1)) x.no_operands) x.no_addends))) ∷ (t.var_item (at 1 20) (name_at 1 24 (codes "x")) ([]) (t.set_kind (at 1 28) (t.range (x.expression (at 1 32) false (x.product (at 1 32) (x.number (at 1 32) (number_at 1 32 0)) x.no_operands) x.no_addends) (x.expression (at 1 35) false (x.product (at 1 35) (x.number (at 1 35) (number_at 1 35 1)) x.no_operands) x.no_addends)))) ∷ (t.post_item (at 1 38) None (t.logic (at 1 43) (f.statement (at 1 49) (f.disjunction (at 1 49) (f.conjunction (at 1 49) (f.literal (at 1 49) (x.a_literal (at 1 49) (x.expression (at 1 50) false (x.product (at 1 50) (x.named (at 1 50) (name_at 1 50 (codes "y")) x.no_expressions) x.no_operands) (x.addend sign.Minus (x.product (at 1 54) (x.named (at 1 54) (name_at 1 54 (codes "y")) x.no_expressions) x.no_operands) (x.addend sign.Plus (x.product (at 1 58) (x.named (at 1 58) (name_at 1 58 (codes "x")) x.no_expressions) x.no_operands) x.no_addends))) test.AtMost (x.expression (at 1 63) false (x.product (at 1 63) (x.number (at 1 63) (number_at 1 63 1)) x.no_operands) x.no_addends))) f.no_claims) f.no_conjunctions) f.nothing)) ([])) ∷ []) (t.satisfy (at 1 67))

accepted_33 : refusal_in row_33 ([]) ≡ None
accepted_33 = refl

shown_33 : length (expansion_of row_33 ([])).posts ≡ 1
shown_33 = refl

-- var x : set 0..1; post logic [2*x <= 1]; satisfy;
abbrev row_34 : t.Tree
row_34 = t.tree (at 1 1) ((t.var_item (at 1 1) (name_at 1 5 (codes "x")) ([]) (t.set_kind (at 1 9) (t.range (x.expression (at 1 13) false (x.product (at 1 13) (x.number (at 1 13) (number_at 1 13 0)) x.no_operands) x.no_addends) (x.expression (at 1 16) false (x.product (at 1 16) (x.number (at 1 16) (number_at 1 16 1)) x.no_operands) x.no_addends)))) ∷ (t.post_item (at 1 19) None (t.logic (at 1 24) (f.statement (at 1 30) (f.disjunction (at 1 30) (f.conjunction (at 1 30) (f.literal (at 1 30) (x.a_literal (at 1 30) (x.expression (at 1 31) false (x.product (at 1 31) (x.number (at 1 31) (number_at 1 31 2)) (x.times (x.named (at 1 33) (name_at 1 33 (codes "x")) x.no_expressions) x.no_operands)) x.no_addends) test.AtMost (x.expression (at 1 38) false (x.product (at 1 38) (x.number (at 1 38) (number_at 1 38 1)) x.no_operands) x.no_addends))) f.no_claims) f.no_conjunctions) f.nothing)) ([])) ∷ []) (t.satisfy (at 1 42))

shown_34 : refusal_in row_34 ([]) ≡ Some (Meaning 1 31 wrong.Variable)
shown_34 = refl

-- var x : set 0..1; post logic [x <= x]; satisfy;
abbrev row_35 : t.Tree
row_35 = t.tree (at 1 1) ((t.var_item (at 1 1) (name_at 1 5 (codes "x")) ([]) (t.set_kind (at 1 9) (t.range (x.expression (at 1 13) false (x.product (at 1 13) (x.number (at 1 13) (number_at 1 13 0)) x.no_operands) x.no_addends) (x.expression (at 1 16) false (x.product (at 1 16) (x.number (at 1 16) (number_at 1 16 1)) x.no_operands) x.no_addends)))) ∷ (t.post_item (at 1 19) None (t.logic (at 1 24) (f.statement (at 1 30) (f.disjunction (at 1 30) (f.conjunction (at 1 30) (f.literal (at 1 30) (x.a_literal (at 1 30) (x.expression (at 1 31) false (x.product (at 1 31) (x.named (at 1 31) (name_at 1 31 (codes "x")) x.no_expressions) x.no_operands) x.no_addends) test.AtMost (x.expression (at 1 36) false (x.product (at 1 36) (x.named (at 1 36) (name_at 1 36 (codes "x")) x.no_expressions) x.no_operands) x.no_addends))) f.no_claims) f.no_conjunctions) f.nothing)) ([])) ∷ []) (t.satisfy (at 1 40))

shown_35 : refusal_in row_35 ([]) ≡ Some (Meaning 1 36 wrong.Whole)
shown_35 = refl

-- var y : real 0..1; post logic [y <= 1]; satisfy;
abbrev row_36 : t.Tree
row_36 = t.tree (at 1 1) ((t.var_item (at 1 1) (name_at 1 5 (codes "y")) ([]) (t.real_kind (at 1 9) (x.expression (at 1 14) false (x.product (at 1 14) (x.number (at 1 14) (number_at 1 14 0)) x.no_operands) x.no_addends) (x.expression (at 1 17) false (x.product (at 1 17) (x.number (at 1 17) (number_at 1 17 1)) x.no_operands) x.no_addends))) ∷ (t.post_item (at 1 20) None (t.logic (at 1 25) (f.statement (at 1 31) (f.disjunction (at 1 31) (f.conjunction (at 1 31) (f.literal (at 1 31) (x.a_literal (at 1 31) (x.expression (at 1 32) false (x.product (at 1 32) (x.named (at 1 32) (name_at 1 32 (codes "y")) x.no_expressions) x.no_operands) x.no_addends) test.AtMost (x.expression (at 1 37) false (x.product (at 1 37) (x.number (at 1 37) (number_at 1 37 1)) x.no_operands) x.no_addends))) f.no_claims) f.no_conjunctions) f.nothing)) ([])) ∷ []) (t.satisfy (at 1 41))

shown_36 : refusal_in row_36 ([]) ≡ Some (Meaning 1 32 wrong.Kind)
shown_36 = refl

-- var x : int 0..1; post circuit(x); satisfy;
abbrev row_37 : t.Tree
row_37 = t.tree (at 1 1) ((t.var_item (at 1 1) (name_at 1 5 (codes "x")) ([]) (t.int_kind (at 1 9) (x.expression (at 1 13) false (x.product (at 1 13) (x.number (at 1 13) (number_at 1 13 0)) x.no_operands) x.no_addends) (x.expression (at 1 16) false (x.product (at 1 16) (x.number (at 1 16) (number_at 1 16 1)) x.no_operands) x.no_addends))) ∷ (t.post_item (at 1 19) None (t.circuit (at 1 24) (t.listing (at 1 32) (x.expression (at 1 32) false (x.product (at 1 32) (x.named (at 1 32) (name_at 1 32 (codes "x")) x.no_expressions) x.no_operands) x.no_addends) ([]) None)) ([])) ∷ []) (t.satisfy (at 1 36))

shown_37 : refusal_in row_37 ([]) ≡ Some (Meaning 1 32 wrong.Kind)
shown_37 = refl

-- var x : set 1..0; satisfy;
abbrev row_38 : t.Tree
row_38 = t.tree (at 1 1) ((t.var_item (at 1 1) (name_at 1 5 (codes "x")) ([]) (t.set_kind (at 1 9) (t.range (x.expression (at 1 13) false (x.product (at 1 13) (x.number (at 1 13) (number_at 1 13 1)) x.no_operands) x.no_addends) (x.expression (at 1 16) false (x.product (at 1 16) (x.number (at 1 16) (number_at 1 16 0)) x.no_operands) x.no_addends)))) ∷ []) (t.satisfy (at 1 19))

shown_38 : refusal_in row_38 ([]) ≡ Some (Meaning 1 9 wrong.Value)
shown_38 = refl

-- var s : set 0..1; post disjunctive(s, 0 - 1); satisfy;
abbrev row_39 : t.Tree
row_39 = t.tree (at 1 1) ((t.var_item (at 1 1) (name_at 1 5 (codes "s")) ([]) (t.set_kind (at 1 9) (t.range (x.expression (at 1 13) false (x.product (at 1 13) (x.number (at 1 13) (number_at 1 13 0)) x.no_operands) x.no_addends) (x.expression (at 1 16) false (x.product (at 1 16) (x.number (at 1 16) (number_at 1 16 1)) x.no_operands) x.no_addends)))) ∷ (t.post_item (at 1 19) None (t.disjunctive (at 1 24) (t.dtask (at 1 36) (x.expression (at 1 36) false (x.product (at 1 36) (x.named (at 1 36) (name_at 1 36 (codes "s")) x.no_expressions) x.no_operands) x.no_addends) (x.expression (at 1 39) false (x.product (at 1 39) (x.number (at 1 39) (number_at 1 39 0)) x.no_operands) (x.addend sign.Minus (x.product (at 1 43) (x.number (at 1 43) (number_at 1 43 1)) x.no_operands) x.no_addends)) None None) ([])) ([])) ∷ []) (t.satisfy (at 1 47))

shown_39 : refusal_in row_39 ([]) ≡ Some (Meaning 1 39 wrong.Value)
shown_39 = refl

-- var x : set 0..0; var z : int 0..1; post packing(z; [1, 1]; [0]; x, 1, [0]); minimise z;
abbrev row_40 : t.Tree
row_40 = t.tree (at 1 1) ((t.var_item (at 1 1) (name_at 1 5 (codes "x")) ([]) (t.set_kind (at 1 9) (t.range (x.expression (at 1 13) false (x.product (at 1 13) (x.number (at 1 13) (number_at 1 13 0)) x.no_operands) x.no_addends) (x.expression (at 1 16) false (x.product (at 1 16) (x.number (at 1 16) (number_at 1 16 0)) x.no_operands) x.no_addends)))) ∷ (t.var_item (at 1 19) (name_at 1 23 (codes "z")) ([]) (t.int_kind (at 1 27) (x.expression (at 1 31) false (x.product (at 1 31) (x.number (at 1 31) (number_at 1 31 0)) x.no_operands) x.no_addends) (x.expression (at 1 34) false (x.product (at 1 34) (x.number (at 1 34) (number_at 1 34 1)) x.no_operands) x.no_addends))) ∷ (t.post_item (at 1 37) None (t.packing (at 1 42) (x.expression (at 1 50) false (x.product (at 1 50) (x.named (at 1 50) (name_at 1 50 (codes "z")) x.no_expressions) x.no_operands) x.no_addends) (t.listing (at 1 54) (x.expression (at 1 54) false (x.product (at 1 54) (x.number (at 1 54) (number_at 1 54 1)) x.no_operands) x.no_addends) ((x.expression (at 1 57) false (x.product (at 1 57) (x.number (at 1 57) (number_at 1 57 1)) x.no_operands) x.no_addends) ∷ []) None) (t.listing (at 1 62) (x.expression (at 1 62) false (x.product (at 1 62) (x.number (at 1 62) (number_at 1 62 0)) x.no_operands) x.no_addends) ([]) None) ((t.load (at 1 66) (x.expression (at 1 66) false (x.product (at 1 66) (x.named (at 1 66) (name_at 1 66 (codes "x")) x.no_expressions) x.no_operands) x.no_addends) (x.expression (at 1 69) false (x.product (at 1 69) (x.number (at 1 69) (number_at 1 69 1)) x.no_operands) x.no_addends) (t.listing (at 1 73) (x.expression (at 1 73) false (x.product (at 1 73) (x.number (at 1 73) (number_at 1 73 0)) x.no_operands) x.no_addends) ([]) None) None) ∷ [])) ([])) ∷ []) (t.aims (at 1 78) (t.minimise (at 1 78) (x.expression (at 1 87) false (x.product (at 1 87) (x.named (at 1 87) (name_at 1 87 (codes "z")) x.no_expressions) x.no_operands) x.no_addends)) ([]))

shown_40 : refusal_in row_40 ([]) ≡ Some (Meaning 1 62 wrong.Value)
shown_40 = refl

-- var x : set 0..0; var z : int 0..1; post packing(z; [1]; [0]; x, 1, [0, 0]); minimise z;
abbrev row_41 : t.Tree
row_41 = t.tree (at 1 1) ((t.var_item (at 1 1) (name_at 1 5 (codes "x")) ([]) (t.set_kind (at 1 9) (t.range (x.expression (at 1 13) false (x.product (at 1 13) (x.number (at 1 13) (number_at 1 13 0)) x.no_operands) x.no_addends) (x.expression (at 1 16) false (x.product (at 1 16) (x.number (at 1 16) (number_at 1 16 0)) x.no_operands) x.no_addends)))) ∷ (t.var_item (at 1 19) (name_at 1 23 (codes "z")) ([]) (t.int_kind (at 1 27) (x.expression (at 1 31) false (x.product (at 1 31) (x.number (at 1 31) (number_at 1 31 0)) x.no_operands) x.no_addends) (x.expression (at 1 34) false (x.product (at 1 34) (x.number (at 1 34) (number_at 1 34 1)) x.no_operands) x.no_addends))) ∷ (t.post_item (at 1 37) None (t.packing (at 1 42) (x.expression (at 1 50) false (x.product (at 1 50) (x.named (at 1 50) (name_at 1 50 (codes "z")) x.no_expressions) x.no_operands) x.no_addends) (t.listing (at 1 54) (x.expression (at 1 54) false (x.product (at 1 54) (x.number (at 1 54) (number_at 1 54 1)) x.no_operands) x.no_addends) ([]) None) (t.listing (at 1 59) (x.expression (at 1 59) false (x.product (at 1 59) (x.number (at 1 59) (number_at 1 59 0)) x.no_operands) x.no_addends) ([]) None) ((t.load (at 1 63) (x.expression (at 1 63) false (x.product (at 1 63) (x.named (at 1 63) (name_at 1 63 (codes "x")) x.no_expressions) x.no_operands) x.no_addends) (x.expression (at 1 66) false (x.product (at 1 66) (x.number (at 1 66) (number_at 1 66 1)) x.no_operands) x.no_addends) (t.listing (at 1 70) (x.expression (at 1 70) false (x.product (at 1 70) (x.number (at 1 70) (number_at 1 70 0)) x.no_operands) x.no_addends) ((x.expression (at 1 73) false (x.product (at 1 73) (x.number (at 1 73) (number_at 1 73 0)) x.no_operands) x.no_addends) ∷ []) None) None) ∷ [])) ([])) ∷ []) (t.aims (at 1 78) (t.minimise (at 1 78) (x.expression (at 1 87) false (x.product (at 1 87) (x.named (at 1 87) (name_at 1 87 (codes "z")) x.no_expressions) x.no_operands) x.no_addends)) ([]))

shown_41 : refusal_in row_41 ([]) ≡ Some (Meaning 1 70 wrong.Value)
shown_41 = refl

-- index N = 0..1; var x[N, N, N, N] : set 0..1; satisfy;
abbrev row_42 : t.Tree
row_42 = t.tree (at 1 1) ((t.index_item (at 1 1) (name_at 1 7 (codes "N")) (x.expression (at 1 11) false (x.product (at 1 11) (x.number (at 1 11) (number_at 1 11 0)) x.no_operands) x.no_addends) (x.expression (at 1 14) false (x.product (at 1 14) (x.number (at 1 14) (number_at 1 14 1)) x.no_operands) x.no_addends)) ∷ (t.var_item (at 1 17) (name_at 1 21 (codes "x")) ((name_at 1 23 (codes "N")) ∷ (name_at 1 26 (codes "N")) ∷ (name_at 1 29 (codes "N")) ∷ (name_at 1 32 (codes "N")) ∷ []) (t.set_kind (at 1 37) (t.range (x.expression (at 1 41) false (x.product (at 1 41) (x.number (at 1 41) (number_at 1 41 0)) x.no_operands) x.no_addends) (x.expression (at 1 44) false (x.product (at 1 44) (x.number (at 1 44) (number_at 1 44 1)) x.no_operands) x.no_addends)))) ∷ []) (t.satisfy (at 1 47))

shown_42 : refusal_in row_42 ([]) ≡ Some (Meaning 1 21 wrong.Shape)
shown_42 = refl

-- index N = 0..2; index M = 1..3; var x[N, M] : set {5, 1, 5}; satisfy;
abbrev row_43 : t.Tree
row_43 = t.tree (at 1 1) ((t.index_item (at 1 1) (name_at 1 7 (codes "N")) (x.expression (at 1 11) false (x.product (at 1 11) (x.number (at 1 11) (number_at 1 11 0)) x.no_operands) x.no_addends) (x.expression (at 1 14) false (x.product (at 1 14) (x.number (at 1 14) (number_at 1 14 2)) x.no_operands) x.no_addends)) ∷ (t.index_item (at 1 17) (name_at 1 23 (codes "M")) (x.expression (at 1 27) false (x.product (at 1 27) (x.number (at 1 27) (number_at 1 27 1)) x.no_operands) x.no_addends) (x.expression (at 1 30) false (x.product (at 1 30) (x.number (at 1 30) (number_at 1 30 3)) x.no_operands) x.no_addends)) ∷ (t.var_item (at 1 33) (name_at 1 37 (codes "x")) ((name_at 1 39 (codes "N")) ∷ (name_at 1 42 (codes "M")) ∷ []) (t.set_kind (at 1 47) (t.listed (x.expression (at 1 52) false (x.product (at 1 52) (x.number (at 1 52) (number_at 1 52 5)) x.no_operands) x.no_addends) ((x.expression (at 1 55) false (x.product (at 1 55) (x.number (at 1 55) (number_at 1 55 1)) x.no_operands) x.no_addends) ∷ (x.expression (at 1 58) false (x.product (at 1 58) (x.number (at 1 58) (number_at 1 58 5)) x.no_operands) x.no_addends) ∷ [])))) ∷ []) (t.satisfy (at 1 62))

accepted_43 : refusal_in row_43 ([]) ≡ None
accepted_43 = refl

shown_43 : length (expansion_of row_43 ([])).variables ≡ 9
shown_43 = refl

-- var x : set 0..1; post x >= 0 infer full infer full; satisfy;
abbrev row_44 : t.Tree
row_44 = t.tree (at 1 1) ((t.var_item (at 1 1) (name_at 1 5 (codes "x")) ([]) (t.set_kind (at 1 9) (t.range (x.expression (at 1 13) false (x.product (at 1 13) (x.number (at 1 13) (number_at 1 13 0)) x.no_operands) x.no_addends) (x.expression (at 1 16) false (x.product (at 1 16) (x.number (at 1 16) (number_at 1 16 1)) x.no_operands) x.no_addends)))) ∷ (t.post_item (at 1 19) None (t.linear (at 1 24) (x.expression (at 1 24) false (x.product (at 1 24) (x.named (at 1 24) (name_at 1 24 (codes "x")) x.no_expressions) x.no_operands) x.no_addends) (cmp.AtLeast (at 1 26)) (x.expression (at 1 29) false (x.product (at 1 29) (x.number (at 1 29) (number_at 1 29 0)) x.no_operands) x.no_addends)) ((t.infer (at 1 31) level.Full) ∷ (t.infer (at 1 42) level.Full) ∷ [])) ∷ []) (t.satisfy (at 1 54))

shown_44 : refusal_in row_44 ([]) ≡ Some (Meaning 1 42 wrong.Doubled)
shown_44 = refl

-- var x : set 0..1; post x >= 0 sub 0 - 1; satisfy;
abbrev row_45 : t.Tree
row_45 = t.tree (at 1 1) ((t.var_item (at 1 1) (name_at 1 5 (codes "x")) ([]) (t.set_kind (at 1 9) (t.range (x.expression (at 1 13) false (x.product (at 1 13) (x.number (at 1 13) (number_at 1 13 0)) x.no_operands) x.no_addends) (x.expression (at 1 16) false (x.product (at 1 16) (x.number (at 1 16) (number_at 1 16 1)) x.no_operands) x.no_addends)))) ∷ (t.post_item (at 1 19) None (t.linear (at 1 24) (x.expression (at 1 24) false (x.product (at 1 24) (x.named (at 1 24) (name_at 1 24 (codes "x")) x.no_expressions) x.no_operands) x.no_addends) (cmp.AtLeast (at 1 26)) (x.expression (at 1 29) false (x.product (at 1 29) (x.number (at 1 29) (number_at 1 29 0)) x.no_operands) x.no_addends)) ((t.sub (at 1 31) (x.expression (at 1 35) false (x.product (at 1 35) (x.number (at 1 35) (number_at 1 35 0)) x.no_operands) (x.addend sign.Minus (x.product (at 1 39) (x.number (at 1 39) (number_at 1 39 1)) x.no_operands) x.no_addends))) ∷ [])) ∷ []) (t.satisfy (at 1 42))

shown_45 : refusal_in row_45 ([]) ≡ Some (Meaning 1 35 wrong.Value)
shown_45 = refl

-- var y : real 0..1; post y >= 0 sub 1; post y <= 1; satisfy;
abbrev row_46 : t.Tree
row_46 = t.tree (at 1 1) ((t.var_item (at 1 1) (name_at 1 5 (codes "y")) ([]) (t.real_kind (at 1 9) (x.expression (at 1 14) false (x.product (at 1 14) (x.number (at 1 14) (number_at 1 14 0)) x.no_operands) x.no_addends) (x.expression (at 1 17) false (x.product (at 1 17) (x.number (at 1 17) (number_at 1 17 1)) x.no_operands) x.no_addends))) ∷ (t.post_item (at 1 20) None (t.linear (at 1 25) (x.expression (at 1 25) false (x.product (at 1 25) (x.named (at 1 25) (name_at 1 25 (codes "y")) x.no_expressions) x.no_operands) x.no_addends) (cmp.AtLeast (at 1 27)) (x.expression (at 1 30) false (x.product (at 1 30) (x.number (at 1 30) (number_at 1 30 0)) x.no_operands) x.no_addends)) ((t.sub (at 1 32) (x.expression (at 1 36) false (x.product (at 1 36) (x.number (at 1 36) (number_at 1 36 1)) x.no_operands) x.no_addends)) ∷ [])) ∷ (t.post_item (at 1 39) None (t.linear (at 1 44) (x.expression (at 1 44) false (x.product (at 1 44) (x.named (at 1 44) (name_at 1 44 (codes "y")) x.no_expressions) x.no_operands) x.no_addends) (cmp.AtMost (at 1 46)) (x.expression (at 1 49) false (x.product (at 1 49) (x.number (at 1 49) (number_at 1 49 1)) x.no_operands) x.no_addends)) ([])) ∷ []) (t.satisfy (at 1 52))

shown_46 : refusal_in row_46 ([]) ≡ Some (Meaning 1 5 wrong.Benders)
shown_46 = refl

-- index N = 1..0; var x : set 0..1; post forall i in N : q >= 0; post logic all([x = 0] for i in N); satisfy;
abbrev row_47 : t.Tree
row_47 = t.tree (at 1 1) ((t.index_item (at 1 1) (name_at 1 7 (codes "N")) (x.expression (at 1 11) false (x.product (at 1 11) (x.number (at 1 11) (number_at 1 11 1)) x.no_operands) x.no_addends) (x.expression (at 1 14) false (x.product (at 1 14) (x.number (at 1 14) (number_at 1 14 0)) x.no_operands) x.no_addends)) ∷ (t.var_item (at 1 17) (name_at 1 21 (codes "x")) ([]) (t.set_kind (at 1 25) (t.range (x.expression (at 1 29) false (x.product (at 1 29) (x.number (at 1 29) (number_at 1 29 0)) x.no_operands) x.no_addends) (x.expression (at 1 32) false (x.product (at 1 32) (x.number (at 1 32) (number_at 1 32 1)) x.no_operands) x.no_addends)))) ∷ (t.post_item (at 1 35) (Some (x.binding (at 1 47) (bind_at (at 1 47) (name_at 1 47 (codes "i")) (name_at 1 52 (codes "N"))) ([]) x.no_comparisons)) (t.linear (at 1 56) (x.expression (at 1 56) false (x.product (at 1 56) (x.named (at 1 56) (name_at 1 56 (codes "q")) x.no_expressions) x.no_operands) x.no_addends) (cmp.AtLeast (at 1 58)) (x.expression (at 1 61) false (x.product (at 1 61) (x.number (at 1 61) (number_at 1 61 0)) x.no_operands) x.no_addends)) ([])) ∷ (t.post_item (at 1 64) None (t.logic (at 1 69) (f.statement (at 1 75) (f.disjunction (at 1 75) (f.conjunction (at 1 75) (f.quantified (at 1 75) quantifier.All (f.statement (at 1 79) (f.disjunction (at 1 79) (f.conjunction (at 1 79) (f.literal (at 1 79) (x.a_literal (at 1 79) (x.expression (at 1 80) false (x.product (at 1 80) (x.named (at 1 80) (name_at 1 80 (codes "x")) x.no_expressions) x.no_operands) x.no_addends) test.Equal (x.expression (at 1 84) false (x.product (at 1 84) (x.number (at 1 84) (number_at 1 84 0)) x.no_operands) x.no_addends))) f.no_claims) f.no_conjunctions) f.nothing) (x.binding (at 1 91) (bind_at (at 1 91) (name_at 1 91 (codes "i")) (name_at 1 96 (codes "N"))) ([]) x.no_comparisons)) f.no_claims) f.no_conjunctions) f.nothing)) ([])) ∷ []) (t.satisfy (at 1 100))

accepted_47 : refusal_in row_47 ([]) ≡ None
accepted_47 = refl

shown_47 : length (expansion_of row_47 ([])).posts ≡ 1
shown_47 = refl

-- var x : set 0..1; post x >= 2147483649; satisfy;
abbrev row_48 : t.Tree
row_48 = t.tree (at 1 1) ((t.var_item (at 1 1) (name_at 1 5 (codes "x")) ([]) (t.set_kind (at 1 9) (t.range (x.expression (at 1 13) false (x.product (at 1 13) (x.number (at 1 13) (number_at 1 13 0)) x.no_operands) x.no_addends) (x.expression (at 1 16) false (x.product (at 1 16) (x.number (at 1 16) (number_at 1 16 1)) x.no_operands) x.no_addends)))) ∷ (t.post_item (at 1 19) None (t.linear (at 1 24) (x.expression (at 1 24) false (x.product (at 1 24) (x.named (at 1 24) (name_at 1 24 (codes "x")) x.no_expressions) x.no_operands) x.no_addends) (cmp.AtLeast (at 1 26)) (x.expression (at 1 29) false (x.product (at 1 29) (x.number (at 1 29) (number_at 1 29 2147483649)) x.no_operands) x.no_addends)) ([])) ∷ []) (t.satisfy (at 1 41))

shown_48 : refusal_in row_48 ([]) ≡ Some (Limit counted.Bound (pos 2147483649) (pos 2147483648))
shown_48 = refl

-- index I = 1..2; var p[I] : set 0..1; post logic any([p[i] = 0] and [p[i] = 1] for i in I); satisfy;
abbrev row_49 : t.Tree
row_49 = t.tree (at 1 1) ((t.index_item (at 1 1) (name_at 1 7 (codes "I")) (x.expression (at 1 11) false (x.product (at 1 11) (x.number (at 1 11) (number_at 1 11 1)) x.no_operands) x.no_addends) (x.expression (at 1 14) false (x.product (at 1 14) (x.number (at 1 14) (number_at 1 14 2)) x.no_operands) x.no_addends)) ∷ (t.var_item (at 1 17) (name_at 1 21 (codes "p")) ((name_at 1 23 (codes "I")) ∷ []) (t.set_kind (at 1 28) (t.range (x.expression (at 1 32) false (x.product (at 1 32) (x.number (at 1 32) (number_at 1 32 0)) x.no_operands) x.no_addends) (x.expression (at 1 35) false (x.product (at 1 35) (x.number (at 1 35) (number_at 1 35 1)) x.no_operands) x.no_addends)))) ∷ (t.post_item (at 1 38) None (t.logic (at 1 43) (f.statement (at 1 49) (f.disjunction (at 1 49) (f.conjunction (at 1 49) (f.quantified (at 1 49) quantifier.Any (f.statement (at 1 53) (f.disjunction (at 1 53) (f.conjunction (at 1 53) (f.literal (at 1 53) (x.a_literal (at 1 53) (x.expression (at 1 54) false (x.product (at 1 54) (x.named (at 1 54) (name_at 1 54 (codes "p")) (x.another (x.expression (at 1 56) false (x.product (at 1 56) (x.named (at 1 56) (name_at 1 56 (codes "i")) x.no_expressions) x.no_operands) x.no_addends) x.no_expressions)) x.no_operands) x.no_addends) test.Equal (x.expression (at 1 61) false (x.product (at 1 61) (x.number (at 1 61) (number_at 1 61 0)) x.no_operands) x.no_addends))) (f.and_also (f.literal (at 1 68) (x.a_literal (at 1 68) (x.expression (at 1 69) false (x.product (at 1 69) (x.named (at 1 69) (name_at 1 69 (codes "p")) (x.another (x.expression (at 1 71) false (x.product (at 1 71) (x.named (at 1 71) (name_at 1 71 (codes "i")) x.no_expressions) x.no_operands) x.no_addends) x.no_expressions)) x.no_operands) x.no_addends) test.Equal (x.expression (at 1 76) false (x.product (at 1 76) (x.number (at 1 76) (number_at 1 76 1)) x.no_operands) x.no_addends))) f.no_claims)) f.no_conjunctions) f.nothing) (x.binding (at 1 83) (bind_at (at 1 83) (name_at 1 83 (codes "i")) (name_at 1 88 (codes "I"))) ([]) x.no_comparisons)) f.no_claims) f.no_conjunctions) f.nothing)) ([])) ∷ []) (t.satisfy (at 1 92))

accepted_49 : refusal_in row_49 ([]) ≡ None
accepted_49 = refl

shown_49 : length (expansion_of row_49 ([])).posts ≡ 1
shown_49 = refl

-- index I = 1..12; var p[I] : set 0..1; post logic any([p[i] = 0] and [p[i] = 1] for i in I) relax none; satisfy;
abbrev row_50 : t.Tree
row_50 = t.tree (at 1 1) ((t.index_item (at 1 1) (name_at 1 7 (codes "I")) (x.expression (at 1 11) false (x.product (at 1 11) (x.number (at 1 11) (number_at 1 11 1)) x.no_operands) x.no_addends) (x.expression (at 1 14) false (x.product (at 1 14) (x.number (at 1 14) (number_at 1 14 12)) x.no_operands) x.no_addends)) ∷ (t.var_item (at 1 18) (name_at 1 22 (codes "p")) ((name_at 1 24 (codes "I")) ∷ []) (t.set_kind (at 1 29) (t.range (x.expression (at 1 33) false (x.product (at 1 33) (x.number (at 1 33) (number_at 1 33 0)) x.no_operands) x.no_addends) (x.expression (at 1 36) false (x.product (at 1 36) (x.number (at 1 36) (number_at 1 36 1)) x.no_operands) x.no_addends)))) ∷ (t.post_item (at 1 39) None (t.logic (at 1 44) (f.statement (at 1 50) (f.disjunction (at 1 50) (f.conjunction (at 1 50) (f.quantified (at 1 50) quantifier.Any (f.statement (at 1 54) (f.disjunction (at 1 54) (f.conjunction (at 1 54) (f.literal (at 1 54) (x.a_literal (at 1 54) (x.expression (at 1 55) false (x.product (at 1 55) (x.named (at 1 55) (name_at 1 55 (codes "p")) (x.another (x.expression (at 1 57) false (x.product (at 1 57) (x.named (at 1 57) (name_at 1 57 (codes "i")) x.no_expressions) x.no_operands) x.no_addends) x.no_expressions)) x.no_operands) x.no_addends) test.Equal (x.expression (at 1 62) false (x.product (at 1 62) (x.number (at 1 62) (number_at 1 62 0)) x.no_operands) x.no_addends))) (f.and_also (f.literal (at 1 69) (x.a_literal (at 1 69) (x.expression (at 1 70) false (x.product (at 1 70) (x.named (at 1 70) (name_at 1 70 (codes "p")) (x.another (x.expression (at 1 72) false (x.product (at 1 72) (x.named (at 1 72) (name_at 1 72 (codes "i")) x.no_expressions) x.no_operands) x.no_addends) x.no_expressions)) x.no_operands) x.no_addends) test.Equal (x.expression (at 1 77) false (x.product (at 1 77) (x.number (at 1 77) (number_at 1 77 1)) x.no_operands) x.no_addends))) f.no_claims)) f.no_conjunctions) f.nothing) (x.binding (at 1 84) (bind_at (at 1 84) (name_at 1 84 (codes "i")) (name_at 1 89 (codes "I"))) ([]) x.no_comparisons)) f.no_claims) f.no_conjunctions) f.nothing)) ((t.relax (at 1 92) relaxing.None) ∷ [])) ∷ []) (t.satisfy (at 1 104))

accepted_50 : refusal_in row_50 ([]) ≡ None
accepted_50 = refl

shown_50 : length (expansion_of row_50 ([])).posts ≡ 1
shown_50 = refl

-- index I = 1..13; var p[I] : set 0..1; post logic any([p[i] = 0] and [p[i] = 1] for i in I) relax none; satisfy;
abbrev row_51 : t.Tree
row_51 = t.tree (at 1 1) ((t.index_item (at 1 1) (name_at 1 7 (codes "I")) (x.expression (at 1 11) false (x.product (at 1 11) (x.number (at 1 11) (number_at 1 11 1)) x.no_operands) x.no_addends) (x.expression (at 1 14) false (x.product (at 1 14) (x.number (at 1 14) (number_at 1 14 13)) x.no_operands) x.no_addends)) ∷ (t.var_item (at 1 18) (name_at 1 22 (codes "p")) ((name_at 1 24 (codes "I")) ∷ []) (t.set_kind (at 1 29) (t.range (x.expression (at 1 33) false (x.product (at 1 33) (x.number (at 1 33) (number_at 1 33 0)) x.no_operands) x.no_addends) (x.expression (at 1 36) false (x.product (at 1 36) (x.number (at 1 36) (number_at 1 36 1)) x.no_operands) x.no_addends)))) ∷ (t.post_item (at 1 39) None (t.logic (at 1 44) (f.statement (at 1 50) (f.disjunction (at 1 50) (f.conjunction (at 1 50) (f.quantified (at 1 50) quantifier.Any (f.statement (at 1 54) (f.disjunction (at 1 54) (f.conjunction (at 1 54) (f.literal (at 1 54) (x.a_literal (at 1 54) (x.expression (at 1 55) false (x.product (at 1 55) (x.named (at 1 55) (name_at 1 55 (codes "p")) (x.another (x.expression (at 1 57) false (x.product (at 1 57) (x.named (at 1 57) (name_at 1 57 (codes "i")) x.no_expressions) x.no_operands) x.no_addends) x.no_expressions)) x.no_operands) x.no_addends) test.Equal (x.expression (at 1 62) false (x.product (at 1 62) (x.number (at 1 62) (number_at 1 62 0)) x.no_operands) x.no_addends))) (f.and_also (f.literal (at 1 69) (x.a_literal (at 1 69) (x.expression (at 1 70) false (x.product (at 1 70) (x.named (at 1 70) (name_at 1 70 (codes "p")) (x.another (x.expression (at 1 72) false (x.product (at 1 72) (x.named (at 1 72) (name_at 1 72 (codes "i")) x.no_expressions) x.no_operands) x.no_addends) x.no_expressions)) x.no_operands) x.no_addends) test.Equal (x.expression (at 1 77) false (x.product (at 1 77) (x.number (at 1 77) (number_at 1 77 1)) x.no_operands) x.no_addends))) f.no_claims)) f.no_conjunctions) f.nothing) (x.binding (at 1 84) (bind_at (at 1 84) (name_at 1 84 (codes "i")) (name_at 1 89 (codes "I"))) ([]) x.no_comparisons)) f.no_claims) f.no_conjunctions) f.nothing)) ((t.relax (at 1 92) relaxing.None) ∷ [])) ∷ []) (t.satisfy (at 1 104))

shown_51 : refusal_in row_51 ([]) ≡ Some (Limit counted.Clauses (pos 8192) (pos 4096))
shown_51 = refl

-- var p : set 0..1; post logic not ([p = 0] or [p = 2147483649]); satisfy;
abbrev row_52 : t.Tree
row_52 = t.tree (at 1 1) ((t.var_item (at 1 1) (name_at 1 5 (codes "p")) ([]) (t.set_kind (at 1 9) (t.range (x.expression (at 1 13) false (x.product (at 1 13) (x.number (at 1 13) (number_at 1 13 0)) x.no_operands) x.no_addends) (x.expression (at 1 16) false (x.product (at 1 16) (x.number (at 1 16) (number_at 1 16 1)) x.no_operands) x.no_addends)))) ∷ (t.post_item (at 1 19) None (t.logic (at 1 24) (f.statement (at 1 30) (f.disjunction (at 1 30) (f.conjunction (at 1 30) (f.negation (at 1 30) (f.group (at 1 34) (f.statement (at 1 35) (f.disjunction (at 1 35) (f.conjunction (at 1 35) (f.literal (at 1 35) (x.a_literal (at 1 35) (x.expression (at 1 36) false (x.product (at 1 36) (x.named (at 1 36) (name_at 1 36 (codes "p")) x.no_expressions) x.no_operands) x.no_addends) test.Equal (x.expression (at 1 40) false (x.product (at 1 40) (x.number (at 1 40) (number_at 1 40 0)) x.no_operands) x.no_addends))) f.no_claims) (f.or_else (f.conjunction (at 1 46) (f.literal (at 1 46) (x.a_literal (at 1 46) (x.expression (at 1 47) false (x.product (at 1 47) (x.named (at 1 47) (name_at 1 47 (codes "p")) x.no_expressions) x.no_operands) x.no_addends) test.Equal (x.expression (at 1 51) false (x.product (at 1 51) (x.number (at 1 51) (number_at 1 51 2147483649)) x.no_operands) x.no_addends))) f.no_claims) f.no_conjunctions)) f.nothing))) f.no_claims) f.no_conjunctions) f.nothing)) ([])) ∷ []) (t.satisfy (at 1 65))

shown_52 : refusal_in row_52 ([]) ≡ Some (Limit counted.Bound (pos 2147483649) (pos 2147483648))
shown_52 = refl

-- var p : set 0..1; post logic [p = 0] implies [q = 0]; satisfy;
abbrev row_53 : t.Tree
row_53 = t.tree (at 1 1) ((t.var_item (at 1 1) (name_at 1 5 (codes "p")) ([]) (t.set_kind (at 1 9) (t.range (x.expression (at 1 13) false (x.product (at 1 13) (x.number (at 1 13) (number_at 1 13 0)) x.no_operands) x.no_addends) (x.expression (at 1 16) false (x.product (at 1 16) (x.number (at 1 16) (number_at 1 16 1)) x.no_operands) x.no_addends)))) ∷ (t.post_item (at 1 19) None (t.logic (at 1 24) (f.statement (at 1 30) (f.disjunction (at 1 30) (f.conjunction (at 1 30) (f.literal (at 1 30) (x.a_literal (at 1 30) (x.expression (at 1 31) false (x.product (at 1 31) (x.named (at 1 31) (name_at 1 31 (codes "p")) x.no_expressions) x.no_operands) x.no_addends) test.Equal (x.expression (at 1 35) false (x.product (at 1 35) (x.number (at 1 35) (number_at 1 35 0)) x.no_operands) x.no_addends))) f.no_claims) f.no_conjunctions) (f.implied (f.disjunction (at 1 46) (f.conjunction (at 1 46) (f.literal (at 1 46) (x.a_literal (at 1 46) (x.expression (at 1 47) false (x.product (at 1 47) (x.named (at 1 47) (name_at 1 47 (codes "q")) x.no_expressions) x.no_operands) x.no_addends) test.Equal (x.expression (at 1 51) false (x.product (at 1 51) (x.number (at 1 51) (number_at 1 51 0)) x.no_operands) x.no_addends))) f.no_claims) f.no_conjunctions)))) ([])) ∷ []) (t.satisfy (at 1 55))

shown_53 : refusal_in row_53 ([]) ≡ Some (Meaning 1 47 wrong.Unknown)
shown_53 = refl

-- var s : set 0..1; var y : real 0..1; post cumulative(1; s, 1, 1 when [y = 1]); satisfy;
abbrev row_54 : t.Tree
row_54 = t.tree (at 1 1) ((t.var_item (at 1 1) (name_at 1 5 (codes "s")) ([]) (t.set_kind (at 1 9) (t.range (x.expression (at 1 13) false (x.product (at 1 13) (x.number (at 1 13) (number_at 1 13 0)) x.no_operands) x.no_addends) (x.expression (at 1 16) false (x.product (at 1 16) (x.number (at 1 16) (number_at 1 16 1)) x.no_operands) x.no_addends)))) ∷ (t.var_item (at 1 19) (name_at 1 23 (codes "y")) ([]) (t.real_kind (at 1 27) (x.expression (at 1 32) false (x.product (at 1 32) (x.number (at 1 32) (number_at 1 32 0)) x.no_operands) x.no_addends) (x.expression (at 1 35) false (x.product (at 1 35) (x.number (at 1 35) (number_at 1 35 1)) x.no_operands) x.no_addends))) ∷ (t.post_item (at 1 38) None (t.cumulative (at 1 43) (x.expression (at 1 54) false (x.product (at 1 54) (x.number (at 1 54) (number_at 1 54 1)) x.no_operands) x.no_addends) ((t.ctask (at 1 57) (x.expression (at 1 57) false (x.product (at 1 57) (x.named (at 1 57) (name_at 1 57 (codes "s")) x.no_expressions) x.no_operands) x.no_addends) (x.expression (at 1 60) false (x.product (at 1 60) (x.number (at 1 60) (number_at 1 60 1)) x.no_operands) x.no_addends) (x.expression (at 1 63) false (x.product (at 1 63) (x.number (at 1 63) (number_at 1 63 1)) x.no_operands) x.no_addends) (Some (x.a_literal (at 1 70) (x.expression (at 1 71) false (x.product (at 1 71) (x.named (at 1 71) (name_at 1 71 (codes "y")) x.no_expressions) x.no_operands) x.no_addends) test.Equal (x.expression (at 1 75) false (x.product (at 1 75) (x.number (at 1 75) (number_at 1 75 1)) x.no_operands) x.no_addends))) None) ∷ [])) ([])) ∷ []) (t.satisfy (at 1 80))

shown_54 : refusal_in row_54 ([]) ≡ Some (Meaning 1 71 wrong.Kind)
shown_54 = refl

-- index N = 0..2; var x[N] : set 0..1; post sum(x[i] + sum(x[j] for j in N if j < i) for i in N) >= 0; satisfy;
abbrev row_55 : t.Tree
row_55 = t.tree (at 1 1) ((t.index_item (at 1 1) (name_at 1 7 (codes "N")) (x.expression (at 1 11) false (x.product (at 1 11) (x.number (at 1 11) (number_at 1 11 0)) x.no_operands) x.no_addends) (x.expression (at 1 14) false (x.product (at 1 14) (x.number (at 1 14) (number_at 1 14 2)) x.no_operands) x.no_addends)) ∷ (t.var_item (at 1 17) (name_at 1 21 (codes "x")) ((name_at 1 23 (codes "N")) ∷ []) (t.set_kind (at 1 28) (t.range (x.expression (at 1 32) false (x.product (at 1 32) (x.number (at 1 32) (number_at 1 32 0)) x.no_operands) x.no_addends) (x.expression (at 1 35) false (x.product (at 1 35) (x.number (at 1 35) (number_at 1 35 1)) x.no_operands) x.no_addends)))) ∷ (t.post_item (at 1 38) None (t.linear (at 1 43) (x.expression (at 1 43) false (x.product (at 1 43) (x.sum (at 1 43) (x.expression (at 1 47) false (x.product (at 1 47) (x.named (at 1 47) (name_at 1 47 (codes "x")) (x.another (x.expression (at 1 49) false (x.product (at 1 49) (x.named (at 1 49) (name_at 1 49 (codes "i")) x.no_expressions) x.no_operands) x.no_addends) x.no_expressions)) x.no_operands) (x.addend sign.Plus (x.product (at 1 54) (x.sum (at 1 54) (x.expression (at 1 58) false (x.product (at 1 58) (x.named (at 1 58) (name_at 1 58 (codes "x")) (x.another (x.expression (at 1 60) false (x.product (at 1 60) (x.named (at 1 60) (name_at 1 60 (codes "j")) x.no_expressions) x.no_operands) x.no_addends) x.no_expressions)) x.no_operands) x.no_addends) (x.binding (at 1 67) (bind_at (at 1 67) (name_at 1 67 (codes "j")) (name_at 1 72 (codes "N"))) ([]) (x.besides (x.comparison (at 1 77) (x.expression (at 1 77) false (x.product (at 1 77) (x.named (at 1 77) (name_at 1 77 (codes "j")) x.no_expressions) x.no_operands) x.no_addends) relation.Less (x.expression (at 1 81) false (x.product (at 1 81) (x.named (at 1 81) (name_at 1 81 (codes "i")) x.no_expressions) x.no_operands) x.no_addends)) x.no_comparisons))) x.no_operands) x.no_addends)) (x.binding (at 1 88) (bind_at (at 1 88) (name_at 1 88 (codes "i")) (name_at 1 93 (codes "N"))) ([]) x.no_comparisons)) x.no_operands) x.no_addends) (cmp.AtLeast (at 1 96)) (x.expression (at 1 99) false (x.product (at 1 99) (x.number (at 1 99) (number_at 1 99 0)) x.no_operands) x.no_addends)) ([])) ∷ []) (t.satisfy (at 1 102))

accepted_55 : refusal_in row_55 ([]) ≡ None
accepted_55 = refl

shown_55 : numbers_of_row 3 (slice_get (expansion_of row_55 ([])).posts 0) ≡ ((pos 3) ∷ (pos 2) ∷ (pos 1) ∷ (pos 0) ∷ [])
shown_55 = refl

-- index N = 0..2; var x[N] : set 0..1; post -x[2] + 3 - sum(i*x[i] for i in N if i != 1 and 2 > 1) <= 4 - x[0]; satisfy;
abbrev row_56 : t.Tree
row_56 = t.tree (at 1 1) ((t.index_item (at 1 1) (name_at 1 7 (codes "N")) (x.expression (at 1 11) false (x.product (at 1 11) (x.number (at 1 11) (number_at 1 11 0)) x.no_operands) x.no_addends) (x.expression (at 1 14) false (x.product (at 1 14) (x.number (at 1 14) (number_at 1 14 2)) x.no_operands) x.no_addends)) ∷ (t.var_item (at 1 17) (name_at 1 21 (codes "x")) ((name_at 1 23 (codes "N")) ∷ []) (t.set_kind (at 1 28) (t.range (x.expression (at 1 32) false (x.product (at 1 32) (x.number (at 1 32) (number_at 1 32 0)) x.no_operands) x.no_addends) (x.expression (at 1 35) false (x.product (at 1 35) (x.number (at 1 35) (number_at 1 35 1)) x.no_operands) x.no_addends)))) ∷ (t.post_item (at 1 38) None (t.linear (at 1 43) (x.expression (at 1 43) true (x.product (at 1 44) (x.named (at 1 44) (name_at 1 44 (codes "x")) (x.another (x.expression (at 1 46) false (x.product (at 1 46) (x.number (at 1 46) (number_at 1 46 2)) x.no_operands) x.no_addends) x.no_expressions)) x.no_operands) (x.addend sign.Plus (x.product (at 1 51) (x.number (at 1 51) (number_at 1 51 3)) x.no_operands) (x.addend sign.Minus (x.product (at 1 55) (x.sum (at 1 55) (x.expression (at 1 59) false (x.product (at 1 59) (x.named (at 1 59) (name_at 1 59 (codes "i")) x.no_expressions) (x.times (x.named (at 1 61) (name_at 1 61 (codes "x")) (x.another (x.expression (at 1 63) false (x.product (at 1 63) (x.named (at 1 63) (name_at 1 63 (codes "i")) x.no_expressions) x.no_operands) x.no_addends) x.no_expressions)) x.no_operands)) x.no_addends) (x.binding (at 1 70) (bind_at (at 1 70) (name_at 1 70 (codes "i")) (name_at 1 75 (codes "N"))) ([]) (x.besides (x.comparison (at 1 80) (x.expression (at 1 80) false (x.product (at 1 80) (x.named (at 1 80) (name_at 1 80 (codes "i")) x.no_expressions) x.no_operands) x.no_addends) relation.Unequal (x.expression (at 1 85) false (x.product (at 1 85) (x.number (at 1 85) (number_at 1 85 1)) x.no_operands) x.no_addends)) (x.besides (x.comparison (at 1 91) (x.expression (at 1 91) false (x.product (at 1 91) (x.number (at 1 91) (number_at 1 91 2)) x.no_operands) x.no_addends) relation.Greater (x.expression (at 1 95) false (x.product (at 1 95) (x.number (at 1 95) (number_at 1 95 1)) x.no_operands) x.no_addends)) x.no_comparisons)))) x.no_operands) x.no_addends))) (cmp.AtMost (at 1 98)) (x.expression (at 1 101) false (x.product (at 1 101) (x.number (at 1 101) (number_at 1 101 4)) x.no_operands) (x.addend sign.Minus (x.product (at 1 105) (x.named (at 1 105) (name_at 1 105 (codes "x")) (x.another (x.expression (at 1 107) false (x.product (at 1 107) (x.number (at 1 107) (number_at 1 107 0)) x.no_operands) x.no_addends) x.no_expressions)) x.no_operands) x.no_addends))) ([])) ∷ []) (t.satisfy (at 1 111))

accepted_56 : refusal_in row_56 ([]) ≡ None
accepted_56 = refl

shown_56 : numbers_of_row 3 (slice_get (expansion_of row_56 ([])).posts 0) ≡ ((pos 1) ∷ (pos 0) ∷ (negsuc 2) ∷ (negsuc 0) ∷ [])
shown_56 = refl

-- index N = 0..1; var x[N] : set 0..1; post forall i in N : when [x[i] = 1], [x[0] <= 0] then x[1] >= 2*i; satisfy;
abbrev row_57 : t.Tree
row_57 = t.tree (at 1 1) ((t.index_item (at 1 1) (name_at 1 7 (codes "N")) (x.expression (at 1 11) false (x.product (at 1 11) (x.number (at 1 11) (number_at 1 11 0)) x.no_operands) x.no_addends) (x.expression (at 1 14) false (x.product (at 1 14) (x.number (at 1 14) (number_at 1 14 1)) x.no_operands) x.no_addends)) ∷ (t.var_item (at 1 17) (name_at 1 21 (codes "x")) ((name_at 1 23 (codes "N")) ∷ []) (t.set_kind (at 1 28) (t.range (x.expression (at 1 32) false (x.product (at 1 32) (x.number (at 1 32) (number_at 1 32 0)) x.no_operands) x.no_addends) (x.expression (at 1 35) false (x.product (at 1 35) (x.number (at 1 35) (number_at 1 35 1)) x.no_operands) x.no_addends)))) ∷ (t.post_item (at 1 38) (Some (x.binding (at 1 50) (bind_at (at 1 50) (name_at 1 50 (codes "i")) (name_at 1 55 (codes "N"))) ([]) x.no_comparisons)) (t.conditional (at 1 59) (x.a_literal (at 1 64) (x.expression (at 1 65) false (x.product (at 1 65) (x.named (at 1 65) (name_at 1 65 (codes "x")) (x.another (x.expression (at 1 67) false (x.product (at 1 67) (x.named (at 1 67) (name_at 1 67 (codes "i")) x.no_expressions) x.no_operands) x.no_addends) x.no_expressions)) x.no_operands) x.no_addends) test.Equal (x.expression (at 1 72) false (x.product (at 1 72) (x.number (at 1 72) (number_at 1 72 1)) x.no_operands) x.no_addends)) ((x.a_literal (at 1 76) (x.expression (at 1 77) false (x.product (at 1 77) (x.named (at 1 77) (name_at 1 77 (codes "x")) (x.another (x.expression (at 1 79) false (x.product (at 1 79) (x.number (at 1 79) (number_at 1 79 0)) x.no_operands) x.no_addends) x.no_expressions)) x.no_operands) x.no_addends) test.AtMost (x.expression (at 1 85) false (x.product (at 1 85) (x.number (at 1 85) (number_at 1 85 0)) x.no_operands) x.no_addends)) ∷ []) (x.expression (at 1 93) false (x.product (at 1 93) (x.named (at 1 93) (name_at 1 93 (codes "x")) (x.another (x.expression (at 1 95) false (x.product (at 1 95) (x.number (at 1 95) (number_at 1 95 1)) x.no_operands) x.no_addends) x.no_expressions)) x.no_operands) x.no_addends) (cmp.AtLeast (at 1 98)) (x.expression (at 1 101) false (x.product (at 1 101) (x.number (at 1 101) (number_at 1 101 2)) (x.times (x.named (at 1 103) (name_at 1 103 (codes "i")) x.no_expressions) x.no_operands)) x.no_addends)) ([])) ∷ []) (t.satisfy (at 1 106))

accepted_57 : refusal_in row_57 ([]) ≡ None
accepted_57 = refl

shown_57 : numbers_of_row 2 (slice_get (expansion_of row_57 ([])).posts 1) ≡ ((pos 0) ∷ (pos 1) ∷ (negsuc 1) ∷ [])
shown_57 = refl

-- var x : set 0..1; var z : int 0..9; post element(x, [7, z, 2147483649], z); satisfy;
abbrev row_58 : t.Tree
row_58 = t.tree (at 1 1) ((t.var_item (at 1 1) (name_at 1 5 (codes "x")) ([]) (t.set_kind (at 1 9) (t.range (x.expression (at 1 13) false (x.product (at 1 13) (x.number (at 1 13) (number_at 1 13 0)) x.no_operands) x.no_addends) (x.expression (at 1 16) false (x.product (at 1 16) (x.number (at 1 16) (number_at 1 16 1)) x.no_operands) x.no_addends)))) ∷ (t.var_item (at 1 19) (name_at 1 23 (codes "z")) ([]) (t.int_kind (at 1 27) (x.expression (at 1 31) false (x.product (at 1 31) (x.number (at 1 31) (number_at 1 31 0)) x.no_operands) x.no_addends) (x.expression (at 1 34) false (x.product (at 1 34) (x.number (at 1 34) (number_at 1 34 9)) x.no_operands) x.no_addends))) ∷ (t.post_item (at 1 37) None (t.element (at 1 42) (x.expression (at 1 50) false (x.product (at 1 50) (x.named (at 1 50) (name_at 1 50 (codes "x")) x.no_expressions) x.no_operands) x.no_addends) (t.listing (at 1 54) (x.expression (at 1 54) false (x.product (at 1 54) (x.number (at 1 54) (number_at 1 54 7)) x.no_operands) x.no_addends) ((x.expression (at 1 57) false (x.product (at 1 57) (x.named (at 1 57) (name_at 1 57 (codes "z")) x.no_expressions) x.no_operands) x.no_addends) ∷ (x.expression (at 1 60) false (x.product (at 1 60) (x.number (at 1 60) (number_at 1 60 2147483649)) x.no_operands) x.no_addends) ∷ []) None) (x.expression (at 1 73) false (x.product (at 1 73) (x.named (at 1 73) (name_at 1 73 (codes "z")) x.no_expressions) x.no_operands) x.no_addends)) ([])) ∷ []) (t.satisfy (at 1 77))

shown_58 : refusal_in row_58 ([]) ≡ Some (Limit counted.Entry (pos 2147483649) (pos 2147483648))
shown_58 = refl

-- var x : set 0..1; var z : int 0..9; post element(z, [7], z); satisfy;
abbrev row_59 : t.Tree
row_59 = t.tree (at 1 1) ((t.var_item (at 1 1) (name_at 1 5 (codes "x")) ([]) (t.set_kind (at 1 9) (t.range (x.expression (at 1 13) false (x.product (at 1 13) (x.number (at 1 13) (number_at 1 13 0)) x.no_operands) x.no_addends) (x.expression (at 1 16) false (x.product (at 1 16) (x.number (at 1 16) (number_at 1 16 1)) x.no_operands) x.no_addends)))) ∷ (t.var_item (at 1 19) (name_at 1 23 (codes "z")) ([]) (t.int_kind (at 1 27) (x.expression (at 1 31) false (x.product (at 1 31) (x.number (at 1 31) (number_at 1 31 0)) x.no_operands) x.no_addends) (x.expression (at 1 34) false (x.product (at 1 34) (x.number (at 1 34) (number_at 1 34 9)) x.no_operands) x.no_addends))) ∷ (t.post_item (at 1 37) None (t.element (at 1 42) (x.expression (at 1 50) false (x.product (at 1 50) (x.named (at 1 50) (name_at 1 50 (codes "z")) x.no_expressions) x.no_operands) x.no_addends) (t.listing (at 1 54) (x.expression (at 1 54) false (x.product (at 1 54) (x.number (at 1 54) (number_at 1 54 7)) x.no_operands) x.no_addends) ([]) None) (x.expression (at 1 58) false (x.product (at 1 58) (x.named (at 1 58) (name_at 1 58 (codes "z")) x.no_expressions) x.no_operands) x.no_addends)) ([])) ∷ []) (t.satisfy (at 1 62))

shown_59 : refusal_in row_59 ([]) ≡ Some (Meaning 1 50 wrong.Kind)
shown_59 = refl

-- var x : set 0..1; var z : int 0..9; post element(x, [7, 2*z], z); satisfy;
abbrev row_60 : t.Tree
row_60 = t.tree (at 1 1) ((t.var_item (at 1 1) (name_at 1 5 (codes "x")) ([]) (t.set_kind (at 1 9) (t.range (x.expression (at 1 13) false (x.product (at 1 13) (x.number (at 1 13) (number_at 1 13 0)) x.no_operands) x.no_addends) (x.expression (at 1 16) false (x.product (at 1 16) (x.number (at 1 16) (number_at 1 16 1)) x.no_operands) x.no_addends)))) ∷ (t.var_item (at 1 19) (name_at 1 23 (codes "z")) ([]) (t.int_kind (at 1 27) (x.expression (at 1 31) false (x.product (at 1 31) (x.number (at 1 31) (number_at 1 31 0)) x.no_operands) x.no_addends) (x.expression (at 1 34) false (x.product (at 1 34) (x.number (at 1 34) (number_at 1 34 9)) x.no_operands) x.no_addends))) ∷ (t.post_item (at 1 37) None (t.element (at 1 42) (x.expression (at 1 50) false (x.product (at 1 50) (x.named (at 1 50) (name_at 1 50 (codes "x")) x.no_expressions) x.no_operands) x.no_addends) (t.listing (at 1 54) (x.expression (at 1 54) false (x.product (at 1 54) (x.number (at 1 54) (number_at 1 54 7)) x.no_operands) x.no_addends) ((x.expression (at 1 57) false (x.product (at 1 57) (x.number (at 1 57) (number_at 1 57 2)) (x.times (x.named (at 1 59) (name_at 1 59 (codes "z")) x.no_expressions) x.no_operands)) x.no_addends) ∷ []) None) (x.expression (at 1 63) false (x.product (at 1 63) (x.named (at 1 63) (name_at 1 63 (codes "z")) x.no_expressions) x.no_operands) x.no_addends)) ([])) ∷ []) (t.satisfy (at 1 67))

shown_60 : refusal_in row_60 ([]) ≡ Some (Meaning 1 57 wrong.Variable)
shown_60 = refl

-- var x : set 0..1; var z : int 0..9; post indexsum(z; x : [1, z]); satisfy;
abbrev row_61 : t.Tree
row_61 = t.tree (at 1 1) ((t.var_item (at 1 1) (name_at 1 5 (codes "x")) ([]) (t.set_kind (at 1 9) (t.range (x.expression (at 1 13) false (x.product (at 1 13) (x.number (at 1 13) (number_at 1 13 0)) x.no_operands) x.no_addends) (x.expression (at 1 16) false (x.product (at 1 16) (x.number (at 1 16) (number_at 1 16 1)) x.no_operands) x.no_addends)))) ∷ (t.var_item (at 1 19) (name_at 1 23 (codes "z")) ([]) (t.int_kind (at 1 27) (x.expression (at 1 31) false (x.product (at 1 31) (x.number (at 1 31) (number_at 1 31 0)) x.no_operands) x.no_addends) (x.expression (at 1 34) false (x.product (at 1 34) (x.number (at 1 34) (number_at 1 34 9)) x.no_operands) x.no_addends))) ∷ (t.post_item (at 1 37) None (t.chosen (at 1 42) choosing.Indexsum (x.expression (at 1 51) false (x.product (at 1 51) (x.named (at 1 51) (name_at 1 51 (codes "z")) x.no_expressions) x.no_operands) x.no_addends) ((t.choice (at 1 54) (x.expression (at 1 54) false (x.product (at 1 54) (x.named (at 1 54) (name_at 1 54 (codes "x")) x.no_expressions) x.no_operands) x.no_addends) (t.listing (at 1 59) (x.expression (at 1 59) false (x.product (at 1 59) (x.number (at 1 59) (number_at 1 59 1)) x.no_operands) x.no_addends) ((x.expression (at 1 62) false (x.product (at 1 62) (x.named (at 1 62) (name_at 1 62 (codes "z")) x.no_expressions) x.no_operands) x.no_addends) ∷ []) None) None) ∷ [])) ([])) ∷ []) (t.satisfy (at 1 67))

shown_61 : refusal_in row_61 ([]) ≡ Some (Meaning 1 62 wrong.Whole)
shown_61 = refl

-- var x : set 0..1; minimise 2147483649*x;
abbrev row_62 : t.Tree
row_62 = t.tree (at 1 1) ((t.var_item (at 1 1) (name_at 1 5 (codes "x")) ([]) (t.set_kind (at 1 9) (t.range (x.expression (at 1 13) false (x.product (at 1 13) (x.number (at 1 13) (number_at 1 13 0)) x.no_operands) x.no_addends) (x.expression (at 1 16) false (x.product (at 1 16) (x.number (at 1 16) (number_at 1 16 1)) x.no_operands) x.no_addends)))) ∷ []) (t.aims (at 1 19) (t.minimise (at 1 19) (x.expression (at 1 28) false (x.product (at 1 28) (x.number (at 1 28) (number_at 1 28 2147483649)) (x.times (x.named (at 1 39) (name_at 1 39 (codes "x")) x.no_expressions) x.no_operands)) x.no_addends)) ([]))

shown_62 : refusal_in row_62 ([]) ≡ Some (Limit counted.Coefficient (pos 2147483649) (pos 2147483648))
shown_62 = refl

-- var y : real 0..1; minimise y then maximise y;
abbrev row_63 : t.Tree
row_63 = t.tree (at 1 1) ((t.var_item (at 1 1) (name_at 1 5 (codes "y")) ([]) (t.real_kind (at 1 9) (x.expression (at 1 14) false (x.product (at 1 14) (x.number (at 1 14) (number_at 1 14 0)) x.no_operands) x.no_addends) (x.expression (at 1 17) false (x.product (at 1 17) (x.number (at 1 17) (number_at 1 17 1)) x.no_operands) x.no_addends))) ∷ []) (t.aims (at 1 20) (t.minimise (at 1 20) (x.expression (at 1 29) false (x.product (at 1 29) (x.named (at 1 29) (name_at 1 29 (codes "y")) x.no_expressions) x.no_operands) x.no_addends)) ((t.maximise (at 1 36) (x.expression (at 1 45) false (x.product (at 1 45) (x.named (at 1 45) (name_at 1 45 (codes "y")) x.no_expressions) x.no_operands) x.no_addends)) ∷ []))

shown_63 : refusal_in row_63 ([]) ≡ Some (Meaning 1 29 wrong.Kind)
shown_63 = refl

-- var x : set 0..1; minimise x then maximise x then minimise x then minimise x then minimise x;
abbrev row_64 : t.Tree
row_64 = t.tree (at 1 1) ((t.var_item (at 1 1) (name_at 1 5 (codes "x")) ([]) (t.set_kind (at 1 9) (t.range (x.expression (at 1 13) false (x.product (at 1 13) (x.number (at 1 13) (number_at 1 13 0)) x.no_operands) x.no_addends) (x.expression (at 1 16) false (x.product (at 1 16) (x.number (at 1 16) (number_at 1 16 1)) x.no_operands) x.no_addends)))) ∷ []) (t.aims (at 1 19) (t.minimise (at 1 19) (x.expression (at 1 28) false (x.product (at 1 28) (x.named (at 1 28) (name_at 1 28 (codes "x")) x.no_expressions) x.no_operands) x.no_addends)) ((t.maximise (at 1 35) (x.expression (at 1 44) false (x.product (at 1 44) (x.named (at 1 44) (name_at 1 44 (codes "x")) x.no_expressions) x.no_operands) x.no_addends)) ∷ (t.minimise (at 1 51) (x.expression (at 1 60) false (x.product (at 1 60) (x.named (at 1 60) (name_at 1 60 (codes "x")) x.no_expressions) x.no_operands) x.no_addends)) ∷ (t.minimise (at 1 67) (x.expression (at 1 76) false (x.product (at 1 76) (x.named (at 1 76) (name_at 1 76 (codes "x")) x.no_expressions) x.no_operands) x.no_addends)) ∷ (t.minimise (at 1 83) (x.expression (at 1 92) false (x.product (at 1 92) (x.named (at 1 92) (name_at 1 92 (codes "x")) x.no_expressions) x.no_operands) x.no_addends)) ∷ []))

shown_64 : refusal_in row_64 ([]) ≡ Some (Limit counted.Objectives (pos 5) (pos 4))
shown_64 = refl
