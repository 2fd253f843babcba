-- Lines put one after another.
use Rattle.std.proofs.Common.{◌≡◌, ℕ, ◌+◌, ◌^◌, ◌<◌, ◌≤◌, Bool, true, false, cond, List, [], ◌∷◌, ◌++◌, Option, Some, None, length, take, refl, sym, ap, ◌∙◌, append_assoc, arith, inl, inr, length-append, append-nil, add-zero, subst}
use Rattle.std.specs.Prelude.{codes}
use Rattle.std.proofs.lemmas.Grind.{flat_map-append}
use Rattle.std.specs.Io.KnownBytes.{Appends}
use Rattle.sm_base.specs.Causes.{Rose}
use Rattle.sm_base.specs.Bytes.{AppendsFront}
use Rattle.sm_flat.specs.Models.{FlatModel}
use Rattle.sm_step.specs.declared.line.Line.{Line}
use Rattle.std.proofs.lemmas.List.Elements.{All-nil, All-cons, All-append}
use Rattle.sm_step.specs.Text.{text_of, body_text}
use Rattle.sm_step.specs.Grammar.{IsLine}
use Rattle.sm_store.specs.Stores.{narrow_all}
use Rattle.sm_step.specs.declared.line.Outcome.{Outcome}
use Rattle.sm_step.specs.declared.line.Outcome.TheVariants.{Close, Literals}
use Rattle.sm_rules.specs.Trees.{Tree, focus_of, has_empty, close_focus, with_focus, narrowed_focus}
use Rattle.sm_rules.specs.States.{State}
use Rattle.sm_rules.specs.Laws.{Allowed}
use Rattle.sm_rules.specs.Transitions.{concluded, after, Replays}
use Rattle.sm_search.specs.declared.refusal.WorkRefusal.{WorkRefusal}
use Rattle.sm_search.specs.declared.refusal.WorkRefusal.TheVariants.{WriteFault, LogTooLong, OutOfMemory}
use Rattle.sm_step.specs.declared.line.Line.TheVariants as line
use Rattle.sm_search.specs.Went.{Place, IsCounted, texts, Went, Stopped, PassesLimit, IsStopCause}

pub appends_none : (x : Option (List ℕ)) → Appends x x []
appends_none None = tt
appends_none (Some xs) = sym (append-nil xs)

pub appends_both : (a b c : Option (List ℕ)) (xs ys : List ℕ) → Appends a b xs → Appends b c ys → Appends a c (xs ++ ys)
appends_both None b c xs ys one two = tt
appends_both (Some a) None c xs ys one two = absurd one
appends_both (Some a) (Some b) None xs ys one two = absurd two
appends_both (Some a) (Some b) (Some c) xs ys one two = rw (two, one) (append_assoc a xs ys)

texts-append : (xs ys : List Line) → texts (xs ++ ys) ≡ texts xs ++ texts ys
texts-append xs ys = flat_map-append text_of xs ys

pub replays_append : (m : FlatModel) (a b c : State) (xs ys : List Line) → Replays m a xs b → Replays m b ys c → Replays m a (xs ++ ys) c
replays_append m a b c [] ys one two = rw one at two
replays_append m a b c (x ∷ xs) ys one two = (one.0, replays_append m (after m a x) b c xs ys one.1 two)

pub went_none : (m : FlatModel) (p : Place) (x : Option (List ℕ)) → Went m p p x x
went_none m p x = record { put = []; each = All-nil IsLine; told = appends_none x; runs = refl; bytes = sym (add-zero p.bytes) }

pub went_one : (m : FlatModel) (old new : Place) (before now : Option (List ℕ)) (l : Line) → IsLine l → Allowed m old.state l → new.state ≡ after m old.state l → new.bytes ≡ old.bytes + length (text_of l) → Appends before now (text_of l) → Went m old new before now
went_one m old new before now l good ok state bytes told = record {
  put = l ∷ [];
  each = All-cons IsLine l [] good (All-nil IsLine);
  told = rw (append-nil (text_of l)) told;
  runs = (ok, state);
  bytes = rw (append-nil (text_of l)) bytes;
}

pub went_more : (m : FlatModel) (a b c : Place) (x y z : Option (List ℕ)) → Went m a b x y → Went m b c y z → Went m a c x z
went_more m a b c x y z one two = record {
  put = one.put ++ two.put;
  each = All-append IsLine one.put two.put one.each two.each;
  told = rw (texts-append one.put two.put) (appends_both x y z (texts one.put) (texts two.put) one.told two.told);
  runs = replays_append m a.state b.state c.state one.put two.put one.runs two.runs;
  bytes = rw (texts-append one.put two.put, length-append (texts one.put) (texts two.put)) (omega (arith, one.bytes, two.bytes));
}

-- ---- stops

rose_sooner : (a b c : ℕ) → a ≤ b → Rose b c → Rose a c
rose_sooner a b c le rose = omega arith

cause_sooner : (m : FlatModel) (s : State) (bytes a b c : ℕ) (r : WorkRefusal) → a ≤ b → IsStopCause m s bytes b c r → IsStopCause m s bytes a c r
cause_sooner m s bytes a b c WriteFault le cause = rose_sooner a b c le cause
cause_sooner m s bytes a b c LogTooLong le cause = cause
cause_sooner m s bytes a b c OutOfMemory le cause = tt

cause_at : (m : FlatModel) (s : State) (i j a b : ℕ) (r : WorkRefusal) → i ≡ j → IsStopCause m s i a b r → IsStopCause m s j a b r
cause_at m s i j a b r e cause = let P : ℕ → Type 0 = λ n. IsStopCause m s n a b r in subst P e cause

-- nothing was put before memory ran out
pub stopped_none : (m : FlatModel) (p : Place) (x : Option (List ℕ)) (a b : ℕ) (r : WorkRefusal) → r ≡ OutOfMemory → Stopped m p x x a b r
stopped_none m p x a b r e = record {
  put = [];
  each = All-nil IsLine;
  reached = p.state;
  runs = refl;
  rest = [];
  front = inl refl;
  told = appends_none x;
  cause = rw e tt;
}

-- the log would grow too long
pub stopped_long : (m : FlatModel) (p : Place) (x : Option (List ℕ)) (a b : ℕ) (r : WorkRefusal) → r ≡ LogTooLong → PassesLimit m p.state p.bytes → Stopped m p x x a b r
stopped_long m p x a b r e passes = record {
  put = [];
  each = All-nil IsLine;
  reached = p.state;
  runs = refl;
  rest = [];
  front = inl refl;
  told = appends_none x;
  cause = rw (e, add-zero p.bytes) passes;
}

-- a put took some front of a line
pub stopped_front : (m : FlatModel) (p : Place) (x y : Option (List ℕ)) (a b : ℕ) (r : WorkRefusal) (l : Line) → r ≡ WriteFault → IsLine l → Allowed m p.state l → Rose a b → AppendsFront x y (text_of l) → Stopped m p x y a b r
stopped_front m p x y a b r l e good ok rose (n, within, told) = record {
  put = [];
  each = All-nil IsLine;
  reached = p.state;
  runs = refl;
  rest = take n (text_of l);
  front = inr (record { next = l; good = good; allowed = ok; count = n; within = within; is = refl });
  told = told;
  cause = rw e rose;
}

-- lines were put before
pub stopped_more : (m : FlatModel) (p q : Place) (x y z : Option (List ℕ)) (a b c : ℕ) (r : WorkRefusal) → a ≤ b → Went m p q x y → Stopped m q y z b c r → Stopped m p x z a c r
stopped_more m p q x y z a b c r le one two = record {
  put = one.put ++ two.put;
  each = All-append IsLine one.put two.put one.each two.each;
  reached = two.reached;
  runs = replays_append m p.state q.state two.reached one.put two.put one.runs two.runs;
  rest = two.rest;
  front = two.front;
  told = rw (texts-append one.put two.put, append_assoc (texts one.put) (texts two.put) two.rest) (appends_both x y z (texts one.put) (texts two.put ++ two.rest) one.told two.told);
  cause = cause_at m two.reached (q.bytes + length (texts two.put)) (p.bytes + length (texts (one.put ++ two.put))) a c r (rw (texts-append one.put two.put, length-append (texts one.put) (texts two.put)) (omega (arith, one.bytes))) (cause_sooner m two.reached (q.bytes + length (texts two.put)) a b c r le two.cause);
}

-- ---- counts

count_concluded : (o : Outcome) (t : Tree) → (concluded o t).count ≡ t.count
count_concluded Close t = refl
count_concluded (Literals ls) t = by_test (has_empty (narrow_all (focus_of t).store ls))
  where
    by_test : (b : Bool) → (cond b (close_focus t) (with_focus t (narrowed_focus ls t))).count ≡ t.count
    by_test true = refl
    by_test false = refl

count_after : (m : FlatModel) (s : State) (l : Line) → (after m s l).main.count ≤ s.main.count + 1
count_after m s (line.Header version) = omega arith
count_after m s (line.Node id parent l) = omega arith
count_after m s (line.Infer rule outcome) = let same = count_concluded outcome s.main in omega (arith, same)
count_after m s (line.Floor terms) = omega arith
count_after m s line.CloseFloor = omega arith
count_after m s (line.Violated k) = omega arith
count_after m s (line.Sol d vs) = omega arith
count_after m s (line.Verdict v) = omega arith
count_after m s _ = omega arith

pub counted_after : (m : FlatModel) (p : Place) (l : Line) (bytes : ℕ) → IsCounted p → p.bytes < bytes → bytes ≤ 2 ^ 40 → IsCounted (record { state = after m p.state l; bytes = bytes })
counted_after m p l bytes counted more limit = record { limit = limit; nodes = let a = counted.nodes in let b = count_after m p.state l in omega arith }

pub counted_more : (p : Place) (bytes : ℕ) → IsCounted p → p.bytes < bytes → bytes ≤ 2 ^ 40 → IsCounted (record { state = p.state; bytes = bytes })
counted_more p bytes counted more limit = record { limit = limit; nodes = let a = counted.nodes in omega arith }

pub text_some : (l : Line) → 0 < length (text_of l)
unfolding text_of
text_some l = let e = length-append (body_text l) (codes "\n") in omega arith

-- ---- one line

pub put_went : (m : FlatModel) (old new : Place) (x y : Option (List ℕ)) (l : Line) (items : List ℕ) (bytes n : ℕ) → IsLine l → Allowed m old.state l → new ≡ record { state = after m old.state l; bytes = bytes } → bytes ≡ old.bytes + n → n ≡ length (text_of l) → items ≡ text_of l → Appends x y items → Went m old new x y
put_went m old new x y l items bytes n good ok e counted long is told =
    went_one m old new x y l good ok (ap (λ (p : Place). p.state) e) (ap (λ (p : Place). p.bytes) e ∙ (counted ∙ ap (λ (k : ℕ). old.bytes + k) long)) (rw is at told)

pub put_stopped : (m : FlatModel) (old : Place) (x y : Option (List ℕ)) (a b : ℕ) (l : Line) (items : List ℕ) → IsLine l → Allowed m old.state l → items ≡ text_of l → Rose a b → AppendsFront x y items → Stopped m old x y a b WriteFault
put_stopped m old x y a b l items good ok is rose front = stopped_front m old x y a b WriteFault l refl good ok rose (rw is at front)
