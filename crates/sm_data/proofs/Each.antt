-- What is so far, and what comes.
use Rattle.std.proofs.Common.{◌≡◌, ◌∙◌, ap, sym, refl, subst, ℕ, suc, ◌+◌, ◌<◌, ◌≤◌, List, [], ◌∷◌, ◌++◌, length, drop, get_or, add-one, drop-cons, append-nil, Result, Ok, Err}
use Rattle.std.proofs.lemmas.List.{drop_all}
use Rattle.sm_data.specs.Numbers.{◌>>=◌, Fails, each, with_front}
use Rattle.sm_data.specs.declared.refusal.DataRefusal.{DataRefusal}
use Rattle.sm_data.specs.declared.refusal.DataRefusal.TheVariants as refusal

pub with_front-push : {A : Type 0} (xs : List A) (x : A) (r : Result (List A) DataRefusal) → with_front (xs ++ x ∷ []) r ≡ with_front xs (r >>= λ ys. Ok (x ∷ ys))
with_front-push [] x r = refl
with_front-push (y ∷ xs) x r = ap (λ (f : Result (List _) DataRefusal). f >>= λ ys. Ok (y ∷ ys)) (with_front-push xs x r)

pub with_front-ok : {A : Type 0} (xs ys : List A) → with_front xs (Ok ys) ≡ Ok (xs ++ ys)
with_front-ok [] ys = refl
with_front-ok (x ∷ xs) ys = ap (λ (f : Result (List _) DataRefusal). f >>= λ zs. Ok (x ∷ zs)) (with_front-ok xs ys)

pub with_front-err : {A : Type 0} (xs : List A) (e : DataRefusal) → with_front xs (Err e) ≡ Err e
with_front-err [] e = refl
with_front-err (x ∷ xs) e = ap (λ (f : Result (List _) DataRefusal). f >>= λ zs. Ok (x ∷ zs)) (with_front-err xs e)

-- a refusal of what comes is a refusal of the whole
pub fails-front : {A : Type 0} (e : DataRefusal) (xs : List A) (r : Result (List A) DataRefusal) → Fails e r → Fails e (with_front xs r)
fails-front (refusal.BadData c) xs r h = ap (with_front xs) h ∙ with_front-err xs (refusal.BadData c)
fails-front (refusal.Limit w n b) xs r h = ap (with_front xs) h ∙ with_front-err xs (refusal.Limit w n b)
fails-front refusal.OutOfMemory xs r h = tt

pub fails-bind : {A B : Type 0} (e : DataRefusal) (r : Result A DataRefusal) (f : A → Result B DataRefusal) → Fails e r → Fails e (r >>= f)
fails-bind (refusal.BadData c) r f h = ap (λ (x : Result _ DataRefusal). x >>= f) h
fails-bind (refusal.Limit w n b) r f h = ap (λ (x : Result _ DataRefusal). x >>= f) h
fails-bind refusal.OutOfMemory r f h = tt

module _ {X A : Type 0} (f : X → Result A DataRefusal) where
  split : (xs : List X) (i : ℕ) (x : X) → i < length xs → x ≡ get_or xs i x → drop i xs ≡ x ∷ drop (i + 1) xs
  split xs i x lt is = rw add-one (drop-cons xs i x lt ∙ ap (λ (y : X). y ∷ drop (suc i) xs) (sym is))

  -- one more
  pub goes : (xs : List X) (i : ℕ) (x : X) (done new : List A) (y : A) → i < length xs → x ≡ get_or xs i x
      → with_front done (each f (drop i xs)) ≡ each f xs → f x ≡ Ok y → new ≡ done ++ y ∷ []
      → with_front new (each f (drop (i + 1) xs)) ≡ each f xs
  goes xs i x done new y lt is invariant found is_new =
      ap (λ (ys : List A). with_front ys (each f (drop (i + 1) xs))) is_new
      ∙ with_front-push done y (each f (drop (i + 1) xs))
      ∙ ap (λ (r : Result A DataRefusal). with_front done (r >>= λ z. each f (drop (i + 1) xs) >>= λ zs. Ok (z ∷ zs))) (sym found)
      ∙ ap (λ (ys : List X). with_front done (each f ys)) (sym (split xs i x lt is)) ∙ invariant

  -- one that is refused
  pub fails : (xs : List X) (i : ℕ) (x : X) (done : List A) (e : DataRefusal) → i < length xs → x ≡ get_or xs i x
      → with_front done (each f (drop i xs)) ≡ each f xs → Fails e (f x) → Fails e (each f xs)
  fails xs i x done e lt is invariant found =
      subst (Fails e) (ap (λ (ys : List X). with_front done (each f ys)) (sym (split xs i x lt is)) ∙ invariant)
      (fails-front e done (each f (x ∷ drop (i + 1) xs)) (fails-bind e (f x) (λ y. each f (drop (i + 1) xs) >>= λ ys. Ok (y ∷ ys)) found))

  -- no more
  pub ends : (xs : List X) (i : ℕ) (done : List A) → length xs ≤ i → with_front done (each f (drop i xs)) ≡ each f xs → each f xs ≡ Ok done
  ends xs i done past invariant =
      sym invariant ∙ ap (λ (ys : List X). with_front done (each f ys)) (drop_all i xs past) ∙ with_front-ok done [] ∙ ap (λ (ys : List A). Ok ys) (append-nil done)
