-- The rest of a tree as plain data.
use Rattle.std.specs.Prelude.{List, Option, map, option_map}
use Rattle.sm_syntax.specs.declared.place.Place.{Place}
use Rattle.sm_syntax.specs.declared.tree.Name.{Name}
use Rattle.sm_syntax.specs.declared.tree.Number.{Number}
use Rattle.sm_syntax.specs.declared.tree.Cmp.{Cmp}
use Rattle.sm_syntax.specs.declared.tree.Choosing.{Choosing}
use Rattle.sm_syntax.specs.declared.tree.Level.{Level}
use Rattle.sm_syntax.specs.declared.tree.Relaxing.{Relaxing}
use Rattle.sm_syntax.specs.declared.tree.Picking.{Picking}
use Rattle.sm_syntax.specs.declared.tree.Splitting.{Splitting}
use Rattle.sm_syntax.specs.declared.tree.List.{List as ListNode}
use Rattle.sm_syntax.specs.declared.tree.Choice.{Choice as ChoiceNode}
use Rattle.sm_syntax.specs.declared.tree.Ctask.{Ctask as CtaskNode}
use Rattle.sm_syntax.specs.declared.tree.Dtask.{Dtask as DtaskNode}
use Rattle.sm_syntax.specs.declared.tree.Load.{Load as LoadNode}
use Rattle.sm_syntax.specs.declared.tree.Cons.{Cons as ConsNode}
use Rattle.sm_syntax.specs.declared.tree.Cons.TheVariants as cons_node
use Rattle.sm_syntax.specs.declared.tree.Tag.{Tag as TagNode}
use Rattle.sm_syntax.specs.declared.tree.Tag.TheVariants as tag_node
use Rattle.sm_syntax.specs.declared.tree.Values.{Values as ValuesNode}
use Rattle.sm_syntax.specs.declared.tree.Values.TheVariants as values_node
use Rattle.sm_syntax.specs.declared.tree.Kind.{Kind as KindNode}
use Rattle.sm_syntax.specs.declared.tree.Kind.TheVariants as kind_node
use Rattle.sm_syntax.specs.declared.tree.Aim.{Aim as AimNode}
use Rattle.sm_syntax.specs.declared.tree.Aim.TheVariants as aim_node
use Rattle.sm_syntax.specs.declared.tree.Goal.{Goal as GoalNode}
use Rattle.sm_syntax.specs.declared.tree.Goal.TheVariants as goal_node
use Rattle.sm_syntax.specs.declared.tree.Item.{Item as ItemNode}
use Rattle.sm_syntax.specs.declared.tree.Item.TheVariants as item_node
use Rattle.sm_syntax.specs.declared.tree.Tree.{Tree as TreeNode}
use Rattle.sm_syntax.specs.Expressions.{Expression, Binding, Literal, expression_of, binding_of, literal_of}
use Rattle.sm_syntax.specs.Formulas.{Statement, formula_of}

-- ---- lists and what stands in them

-- its first expression, more, and its binders
pub data Listing : Type 0 where
  listing : Place → Expression → List Expression → Option Binding → Listing

pub data Choice : Type 0 where
  choice : Place → Expression → Listing → Option Binding → Choice

-- start, duration, demand
pub data Ctask : Type 0 where
  ctask : Place → Expression → Expression → Expression → Option Literal → Option Binding → Ctask

-- start, duration
pub data Dtask : Type 0 where
  dtask : Place → Expression → Expression → Option Literal → Option Binding → Dtask

-- group, size, costs
pub data Load : Type 0 where
  load : Place → Expression → Expression → Listing → Option Binding → Load

abbrev pub listing_of : ListNode → Listing
listing_of l = listing l.place (expression_of l.first) (map expression_of l.more) (option_map binding_of l.binders)

abbrev pub choice_of : ChoiceNode → Choice
choice_of c = choice c.place (expression_of c.picks) (listing_of c.table) (option_map binding_of c.binders)

abbrev pub ctask_of : CtaskNode → Ctask
ctask_of t = ctask t.place (expression_of t.start) (expression_of t.duration) (expression_of t.demand) (option_map literal_of t.presence) (option_map binding_of t.binders)

abbrev pub dtask_of : DtaskNode → Dtask
dtask_of t = dtask t.place (expression_of t.start) (expression_of t.duration) (option_map literal_of t.presence) (option_map binding_of t.binders)

abbrev pub load_of : LoadNode → Load
load_of l = load l.place (expression_of l.group) (expression_of l.size) (listing_of l.costs) (option_map binding_of l.binders)

-- ---- constraints and tags

pub data Constraint : Type 0 where
  linear : Place → Expression → Cmp → Expression → Constraint
  logic : Place → Statement → Constraint
  conditional : Place → Literal → List Literal → Expression → Cmp → Expression → Constraint
  alldiff : Place → Listing → Constraint
  circuit : Place → Listing → Constraint
  element : Place → Expression → Listing → Expression → Constraint
  chosen : Place → Choosing → Expression → List Choice → Constraint
  cumulative : Place → Expression → List Ctask → Constraint
  disjunctive : Place → Dtask → List Dtask → Constraint
  packing : Place → Expression → Listing → Listing → List Load → Constraint

pub data Tag : Type 0 where
  infer : Place → Level → Tag
  relax : Place → Relaxing → Tag
  branch : Place → Number → Tag
  pick : Place → Picking → Tag
  split : Place → Splitting → Tag
  sub : Place → Expression → Tag

abbrev pub constraint_of : ConsNode → Constraint
constraint_of (cons_node.Linear p l c r) = linear p (expression_of l) c (expression_of r)
constraint_of (cons_node.Logic p f) = logic p (formula_of f)
constraint_of (cons_node.When p l ls x c y) = conditional p (literal_of l) (map literal_of ls) (expression_of x) c (expression_of y)
constraint_of (cons_node.Alldiff p l) = alldiff p (listing_of l)
constraint_of (cons_node.Circuit p l) = circuit p (listing_of l)
constraint_of (cons_node.Element p x l y) = element p (expression_of x) (listing_of l) (expression_of y)
constraint_of (cons_node.Choices p w x cs) = chosen p w (expression_of x) (map choice_of cs)
constraint_of (cons_node.Cumulative p x ts) = cumulative p (expression_of x) (map ctask_of ts)
constraint_of (cons_node.Disjunctive p t ts) = disjunctive p (dtask_of t) (map dtask_of ts)
constraint_of (cons_node.Packing p x cs os ls) = packing p (expression_of x) (listing_of cs) (listing_of os) (map load_of ls)

abbrev pub tag_of : TagNode → Tag
tag_of (tag_node.Infer p l) = infer p l
tag_of (tag_node.Relax p r) = relax p r
tag_of (tag_node.Branch p n) = branch p n
tag_of (tag_node.Pick p k) = pick p k
tag_of (tag_node.Split p s) = split p s
tag_of (tag_node.Sub p x) = sub p (expression_of x)

-- ---- items and goals

pub data Values : Type 0 where
  range : Expression → Expression → Values
  listed : Expression → List Expression → Values

pub data Kind : Type 0 where
  set_kind : Place → Values → Kind
  int_kind : Place → Expression → Expression → Kind
  real_kind : Place → Expression → Expression → Kind

pub data Aim : Type 0 where
  minimise : Place → Expression → Aim
  maximise : Place → Expression → Aim

-- any solution, or aims in the order of their rank: the first, and more
pub data Goal : Type 0 where
  satisfy : Place → Goal
  aims : Place → Aim → List Aim → Goal

pub data Item : Type 0 where
  index_item : Place → Name → Expression → Expression → Item
  var_item : Place → Name → List Name → Kind → Item
  post_item : Place → Option Binding → Constraint → List Tag → Item

pub data Tree : Type 0 where
  tree : Place → List Item → Goal → Tree

abbrev pub values_of : ValuesNode → Values
values_of (values_node.Range l u) = range (expression_of l) (expression_of u)
values_of (values_node.List x xs) = listed (expression_of x) (map expression_of xs)

abbrev pub kind_of : KindNode → Kind
kind_of (kind_node.Set p vs) = set_kind p (values_of vs)
kind_of (kind_node.Int p l u) = int_kind p (expression_of l) (expression_of u)
kind_of (kind_node.Real p l u) = real_kind p (expression_of l) (expression_of u)

abbrev pub aim_of : AimNode → Aim
aim_of (aim_node.Minimise p x) = minimise p (expression_of x)
aim_of (aim_node.Maximise p x) = maximise p (expression_of x)

abbrev pub goal_of : GoalNode → Goal
goal_of (goal_node.Satisfy p) = satisfy p
goal_of (goal_node.Aims p x xs) = aims p (aim_of x) (map aim_of xs)

abbrev pub item_of : ItemNode → Item
item_of (item_node.Index p n l u) = index_item p n (expression_of l) (expression_of u)
item_of (item_node.Var p n ns k) = var_item p n ns (kind_of k)
item_of (item_node.Post p b c ts) = post_item p (option_map binding_of b) (constraint_of c) (map tag_of ts)

-- the plain data of a whole tree
abbrev pub tree_of : TreeNode → Tree
tree_of t = tree t.place (map item_of t.items) (goal_of t.goal)
