-- Laws of steps, and then those that their value leads to: the proofs of calls cite them. They are said over every store and sink, which no
-- clause of a call can range over, so they stand here.
use Rattle.std.proofs.Common.{◌≡◌, inl, inr, ◌++◌, ◌∷◌, [], ℕ, List, Result, Ok, Err, IsErrAnd, IsOkAnd, IfErr, refl, sym, ap, subst, ◌∙◌}
use Rattle.link_base.specs.Words.{and_then, Gives, Refuses}
use Rattle.link_base.specs.declared.fault.Fault.{Fault}
use Rattle.link_base.specs.declared.fault.Fault.TheVariants as fault
use Rattle.link_base.specs.declared.fault.FileRole.{FileRole}
use Rattle.link_outside.specs.Outside.{Held}
use Rattle.link_outside.specs.declared.outside.StoreCall.{StoreCall}
use Rattle.link_outside.specs.declared.refusal.Refusal.{Refusal}
use Rattle.link_outside.specs.declared.refusal.Refusal.TheVariants as refusal
use Rattle.command_scripts.specs.Causes.{Cause, cause_of, the_input, the_memory, the_output, the_store, the_words}
use Rattle.command_scripts.specs.Steps.{HasLoadCause, IsLoadFault, load_of, loaded, LoadGives, StoreSeen, ◌>>=◌, ComesTo, file_within, gives, IsLoadIn, load, Makes, Might, MightLoad, outcome, Reaches, refused_by, seen_by, Steps, StopsBy, Takes}

abbrev pub ok : {T E : Type 0} → T → Result T E
ok x = Ok x

abbrev pub err : {E : Type 0} (T : Type 0) → E → Result T E
err T f = Err f

pub ok_same : {T E : Type 0} (x y : T) → ok {E = E} x ≡ ok y → x ≡ y
ok_same x y e = cc

pub no_ok : {T E : Type 0} {P : Type 0} (f : E) (x : T) → err T f ≡ ok x → P
no_ok f x e = absurd (cc)

err_same : (A B : Type 0) (f g : Refusal) → err A f ≡ err A g → err B f ≡ err B g
err_same A B f g e = cc

pub no_err : {T E : Type 0} {P : Type 0} (x : T) (f : E) → ok x ≡ err T f → P
no_err x f e = absurd (cc)

ok_and : {T : Type 0} (r : Result T Refusal) (P Q : T → Type 0) → ((x : T) → P x → Q x) → IsOkAnd r P → IsOkAnd r Q
ok_and (Ok x) P Q h p = h x p
ok_and (Err f) P Q h p = absurd p

-- along a step that was read
along : {A B : Type 0} (read : Result (List ℕ) Refusal) (p : List ℕ → Result A Refusal) (q : List ℕ → Result B Refusal) (v : Result A Refusal) (w : Result B Refusal) → ((bytes : List ℕ) → p bytes ≡ v → q bytes ≡ w)
    → ((f : Refusal) → Err f ≡ v → Err f ≡ w) → and_then read p ≡ v → and_then read q ≡ w
along (Ok bytes) p q v w h k e = h bytes e
along (Err f) p q v w h k e = k f e

along_ok : {A : Type 0} (read : Result (List ℕ) Refusal) (p : List ℕ → Result A Refusal) (x : A) (Q : List ℕ → Type 0) → ((bytes : List ℕ) → p bytes ≡ Ok x → Q bytes) → and_then read p ≡ Ok x → IsOkAnd read Q
along_ok (Ok bytes) p x Q h e = h bytes e
along_ok (Err f) p x Q h e = no_ok f x e

pub outcome_go : {A B : Type 0} (s : Steps A) (next : A → Steps B) (held : Held) (x : A) → outcome s held ≡ Ok x → outcome (s >>= next) held ≡ outcome (next x) held
unfolding ◌>>=◌
outcome_go (load r limit name step) next held x e =
    along (loaded r limit name (held name)) (λ bytes. outcome (step bytes) held) (λ bytes. outcome (step bytes >>= next) held) (Ok x) (outcome (next x) held) (λ bytes. outcome_go (step bytes) next held x) (λ f h. no_ok f x h) e
outcome_go (gives (Ok y)) next held x e = ap (λ z. outcome (next z) held) (ok_same y x e)
outcome_go (gives (Err f)) next held x e = no_ok (refusal.Fault f) x e

outcome_stop : {A B : Type 0} (s : Steps A) (next : A → Steps B) (held : Held) (f : Refusal) → outcome s held ≡ Err f → outcome (s >>= next) held ≡ Err f
unfolding ◌>>=◌
outcome_stop (load r limit name step) next held f e =
    along (loaded r limit name (held name)) (λ bytes. outcome (step bytes) held) (λ bytes. outcome (step bytes >>= next) held) (Err f) (Err f) (λ bytes. outcome_stop (step bytes) next held f) (λ g h. err_same _ _ g f h) e
outcome_stop (gives (Ok y)) next held f e = no_err y f e
outcome_stop (gives (Err g)) next held f e = err_same _ _ (refusal.Fault g) f e

load_first : {A B : Type 0} (s : Steps A) (next : A → Steps B) (held : Held) (call : StoreCall) → IsLoadIn s held call → IsLoadIn (s >>= next) held call
unfolding ◌>>=◌
load_first (load r limit name step) next held call (inl e) = inl e
load_first (load r limit name step) next held call (inr h) =
    inr (ok_and (loaded r limit name (held name)) (λ bytes. IsLoadIn (step bytes) held call) (λ bytes. IsLoadIn (step bytes >>= next) held call) (λ bytes. load_first (step bytes) next held call) h)
load_first (gives result) next held call h = absurd h

load_later : {A B : Type 0} (s : Steps A) (next : A → Steps B) (held : Held) (x : A) (call : StoreCall) → outcome s held ≡ Ok x → IsLoadIn (next x) held call → IsLoadIn (s >>= next) held call
unfolding ◌>>=◌
load_later (load r limit name step) next held x call e h =
    inr (along_ok (loaded r limit name (held name)) (λ bytes. outcome (step bytes) held) x (λ bytes. IsLoadIn (step bytes >>= next) held call) (λ bytes e. load_later (step bytes) next held x call e h) e)
load_later (gives (Ok y)) next held x call e h =
    let P : _ → Type 0 = λ z. IsLoadIn (next z) held call in subst P (sym (ok_same y x e)) h
load_later (gives (Err f)) next held x call e h = no_ok (refusal.Fault f) x e

might_go : {A B : Type 0} (s : Steps A) (next : A → Steps B) (x : A) (P : Result B Refusal → Type 0) → Might s (λ r. r ≡ ok x) → Might (next x) P → Might (s >>= next) P
unfolding ◌>>=◌
might_go (load r limit name step) next x P (inl e) h = no_ok (refusal.Fault (fault.FileTooLong r limit)) x e
might_go (load r limit name step) next x P (inr m) h = inr (m.0, might_go (step m.0) next x P m.1 h)
might_go (gives (Ok y)) next x P m h = let Q : _ → Type 0 = λ z. Might (next z) P in subst Q (sym (ok_same y x m)) h
might_go (gives (Err f)) next x P m h = no_ok (refusal.Fault f) x m

might_stop : {A B : Type 0} (s : Steps A) (next : A → Steps B) (f : Refusal) → Might s (λ r. r ≡ err A f) → Might (s >>= next) (λ r. r ≡ err B f)
unfolding ◌>>=◌
might_stop (load r limit name step) next f (inl e) = inl (err_same _ _ (refusal.Fault (fault.FileTooLong r limit)) f e)
might_stop (load r limit name step) next f (inr m) = inr (m.0, might_stop (step m.0) next f m.1)
might_stop (gives (Ok y)) next f m = no_err y f m
might_stop (gives (Err g)) next f m = err_same _ _ (refusal.Fault g) f m

might_first : {A B : Type 0} (s : Steps A) (next : A → Steps B) (call : StoreCall) → MightLoad s call → MightLoad (s >>= next) call
unfolding ◌>>=◌
might_first (load r limit name step) next call (inl e) = inl e
might_first (load r limit name step) next call (inr m) = inr (m.0, might_first (step m.0) next call m.1)
might_first (gives result) next call h = absurd h

might_later : {A B : Type 0} (s : Steps A) (next : A → Steps B) (x : A) (call : StoreCall) → Might s (λ r. r ≡ ok x) → MightLoad (next x) call → MightLoad (s >>= next) call
unfolding ◌>>=◌
might_later (load r limit name step) next x call (inl e) h = no_ok (refusal.Fault (fault.FileTooLong r limit)) x e
might_later (load r limit name step) next x call (inr m) h = inr (m.0, might_later (step m.0) next x call m.1 h)
might_later (gives (Ok y)) next x call m h = let Q : _ → Type 0 = λ z. MightLoad (next z) call in subst Q (sym (ok_same y x m)) h
might_later (gives (Err f)) next x call m h = no_ok (refusal.Fault f) x m

-- a store between two times
abbrev pub from_to : Type 0 → Held → Held → List StoreCall → List StoreCall → StoreSeen
from_to tells h k f g = record { tells = tells; held_before = h; held_after = k; faults_before = f; faults_after = g }

module _ {A B : Type 0} (s : Steps A) (next : A → Steps B) where
  pub comes_go : (x : A) (result : Result B Refusal) (tells : Type 0) (h h1 h2 : Held) (f f1 f2 : List StoreCall)
      → ComesTo s (from_to tells h h1 f f1) (Ok x) → ComesTo (next x) (from_to tells h h2 f f2) result → ComesTo (s >>= next) (from_to tells h h2 f f2) result
  comes_go x result tells h h1 h2 f f1 f2 c d = record {
    possible = might_go s next x (λ r. r ≡ result) c.possible d.possible;
    told = λ t. outcome_go s next h x (c.told t) ∙ d.told t;
  }

  pub comes_stop : (f : Refusal) (store : StoreSeen) → ComesTo s store (Err f) → ComesTo (s >>= next) store (Err f)
  comes_stop f store c = record { possible = might_stop s next f c.possible; told = λ t. outcome_stop s next store.held_before f (c.told t) }

  pub reaches_first : (store : StoreSeen) (call : StoreCall) → Reaches s store call → Reaches (s >>= next) store call
  reaches_first store call r = record { possible = might_first s next call r.possible; told = λ t. load_first s next store.held_before call (r.told t) }

  pub reaches_later : (x : A) (call : StoreCall) (tells : Type 0) (h h1 h2 : Held) (f f1 f2 : List StoreCall)
      → ComesTo s (from_to tells h h1 f f1) (Ok x) → Reaches (next x) (from_to tells h h2 f f2) call → Reaches (s >>= next) (from_to tells h h2 f f2) call
  reaches_later x call tells h h1 h2 f f1 f2 c r = record {
    possible = might_later s next x call c.possible r.possible;
    told = λ t. load_later s next h x call (c.told t) (r.told t);
  }

-- what is returned at a fault
pub at_err : {T E : Type 0} (P : Result T E → Type 0) (r : Result T E) (f : E) → IsErrAnd r (λ e. e ≡ f) → P (Err f) → P r
at_err P (Ok x) f e h = absurd e
at_err {E = E} P (Err g) f e h = let Q : E → Type 0 = λ z. P (Err z) in subst Q (sym e) h

-- steps, and then just their value
pub whole : {T : Type 0} (s : Steps T) → (s >>= (λ x. gives (Ok x))) ≡ s
unfolding ◌>>=◌
whole (load r limit name step) = λ i. load r limit name (λ bytes. whole (step bytes) i)
whole (gives (Ok x)) = refl
whole (gives (Err f)) = refl

stops_as : {A B : Type 0} (cause : Cause) (s : Steps A) (to : Steps B) (store : StoreSeen) (f : Refusal) → (ComesTo s store (Err f) → ComesTo to store (Err f))
    → ((call : StoreCall) → Reaches s store call → Reaches to store call) → StopsBy cause s store f → StopsBy cause to store f
stops_as the_words s to store f c r h = h
stops_as (the_store name) s to store f c r h = record { logged = h.logged; reached = r (load_of name) h.reached }
stops_as the_output s to store f c r h = h
stops_as the_memory s to store f c r h = h
stops_as the_input s to store f c r h = record { to = c h.to; faults = h.faults }

-- a fault of the first steps is that of all
pub takes_stop : {A B : Type 0} (s : Steps A) (next : A → Steps B) {store : StoreSeen} {f : Refusal} {result : Result B Refusal} → Takes s store (Err f) → IsErrAnd result (λ e. e ≡ f) → Takes (s >>= next) store result
takes_stop {B = B} s next {store = store} {f = f} {result = result} t e =
    let P : Result B Refusal → Type 0 = λ r. Takes (s >>= next) store r in
    at_err P result f e (record { goes = stops_as (cause_of f) s (s >>= next) store f (comes_stop s next f store) (reaches_first s next store) t.goes; held = t.held })

-- what follows the first steps follows all
pub takes_go : {A B : Type 0} (s : Steps A) (next : A → Steps B) {x : A} {result : Result B Refusal} {tells : Type 0} {h0 h1 h2 : Held} {f0 f1 f2 : List StoreCall}
    → Takes s (record { tells = tells; held_before = h0; held_after = h1; faults_before = f0; faults_after = f1 }) (Ok x)
    → Takes (next x) (record { tells = tells; held_before = h1; held_after = h2; faults_before = f1; faults_after = f2 }) result
    → Takes (s >>= next) (record { tells = tells; held_before = h0; held_after = h2; faults_before = f0; faults_after = f2 }) result
takes_go {A = A} {B = B} s next {x = x} {result = result} {tells = tells} {h0 = h0} {h1 = h1} {h2 = h2} {f0 = f0} {f1 = f1} {f2 = f2} t u =
    let P : Held → Type 0 = λ h. Takes (next x) (from_to tells h h2 f1 f2) result in
    let Q : List StoreCall → Type 0 = λ f. Takes (next x) (from_to tells h0 h2 f f2) result in
    let v : Q f0 = subst Q t.goes.faults (subst P t.held u) in
    go_on result v
  where
    go_on : (r : Result B Refusal) → Takes (next x) (from_to tells h0 h2 f0 f2) r → Takes (s >>= next) (from_to tells h0 h2 f0 f2) r
    go_on (Ok y) v = record { goes = record { to = comes_go s next x (Ok y) tells h0 h1 h2 f0 f1 f2 t.goes.to v.goes.to; faults = v.goes.faults }; held = v.held }
    go_on (Err f) v = record {
      goes = stops_as (cause_of f) (next x) (s >>= next) (from_to tells h0 h2 f0 f2) f (comes_go s next x (Err f) tells h0 h1 h2 f0 f1 f2 t.goes.to) (λ call. reaches_later s next x call tells h0 h1 h2 f0 f1 f2 t.goes.to) v.goes;
      held = v.held;
    }

-- what is computed takes no store
computes_stop : {T : Type 0} (expected : Result T Fault) (tells : Type 0) (held : Held) (faults : List StoreCall) (f : Fault) → Refuses expected f
    → StopsBy (cause_of (refusal.Fault f)) (gives expected) (from_to tells held held faults faults) (refusal.Fault f)
computes_stop expected tells held faults fault.NoMemory h = refl
computes_stop expected tells held faults f h = record { to = record { possible = ap refused_by h; told = λ t. ap refused_by h }; faults = refl }

pub takes_fault : {T : Type 0} {expected : Result T Fault} {f : Fault} {tells : Type 0} {held : Held} {faults : List StoreCall} → Refuses expected f
    → Takes (gives expected) (record { tells = tells; held_before = held; held_after = held; faults_before = faults; faults_after = faults }) (Err (refusal.Fault f))
takes_fault {expected = expected} {f = f} {tells = tells} {held = held} {faults = faults} refused =
    record { goes = computes_stop expected tells held faults f refused; held = refl }

pub takes_refused : {T : Type 0} {expected : Result T Fault} (f : Fault) (result : Result T Refusal) {tells : Type 0} {held : Held} {faults : List StoreCall} → Refuses expected f
    → IsErrAnd result (λ e. e ≡ refusal.Fault f)
    → Takes (gives expected) (record { tells = tells; held_before = held; held_after = held; faults_before = faults; faults_after = faults }) result
takes_refused {T = T} {expected = expected} f result {tells = tells} {held = held} {faults = faults} refused e =
    let P : Result T Refusal → Type 0 = λ r. Takes (gives expected) (from_to tells held held faults faults) r in at_err P result (refusal.Fault f) e (takes_fault refused)

pub takes_ok : {T : Type 0} {expected : Result T Fault} (x : T) {tells : Type 0} {held : Held} {faults : List StoreCall} → expected ≡ Ok x
    → Takes (gives expected) (record { tells = tells; held_before = held; held_after = held; faults_before = faults; faults_after = faults }) (Ok x)
takes_ok x e = record { goes = record { to = record { possible = ap refused_by e; told = λ t. ap refused_by e }; faults = refl }; held = refl }

-- what is said of the bytes that two calls give is said of the bytes that they are
pub of_bytes : (P : List ℕ → List ℕ → Type 0) {a b a2 b2 : List ℕ} → a2 ≡ a → b2 ≡ b → P a2 b2 → P a b
of_bytes P {a = a} {b2 = b2} of_a of_b h = subst (λ y. P a y) of_b (subst (λ x. P x b2) of_a h)

plain : (r v : Result (List ℕ) Refusal) → r ≡ v → and_then r (λ bytes. Ok bytes) ≡ v
plain (Ok bytes) v e = e
plain (Err f) v e = e

-- one load
load_stops : (r : FileRole) (limit : ℕ) (name : List ℕ) (store : StoreSeen) (f : Refusal) → IsLoadFault r limit name f → (store.tells → LoadGives (loaded r limit name (store.held_before name)) (Err f))
    → HasLoadCause store.faults_before store.faults_after name (Err f) → StopsBy (cause_of f) (file_within limit r name) store f
load_stops r limit name store (refusal.Fault (fault.FileTooLong file most)) kind content cause =
    let same : err (List ℕ) (refusal.Fault (fault.FileTooLong r limit)) ≡ err (List ℕ) (refusal.Fault (fault.FileTooLong file most)) = cc in
    record {
      to = record { possible = inl same; told = λ t. plain (loaded r limit name (store.held_before name)) (Err (refusal.Fault (fault.FileTooLong file most))) (content t) };
      faults = cause;
    }
load_stops r limit name store (refusal.Store failed) kind content cause = record {
  logged = let P : List ℕ → Type 0 = λ n. store.faults_after ≡ store.faults_before ++ load_of n ∷ [] in subst P (sym kind) cause;
  reached = record { possible = inl (ap load_of kind); told = λ t. inl (ap load_of kind) };
}
load_stops r limit name store (refusal.Fault fault.NoMemory) kind content cause = cause
load_stops r limit name store f kind content cause = absurd kind

pub takes_load : (r : FileRole) (limit : ℕ) (name : List ℕ) {store : StoreSeen} {result : Result (List ℕ) Refusal} → IfErr result (IsLoadFault r limit name)
    → (store.tells → LoadGives (loaded r limit name (store.held_before name)) result) → store.held_after ≡ store.held_before
    → HasLoadCause store.faults_before store.faults_after name result → Takes (file_within limit r name) store result
takes_load r limit name {store = store} {result = Ok bytes} kind content held cause = record {
  goes = record { to = record { possible = inr (bytes, refl); told = λ t. plain (loaded r limit name (store.held_before name)) (Ok bytes) (content t) }; faults = cause };
  held = held;
}
takes_load r limit name {store = store} {result = Err f} kind content held cause = record { goes = load_stops r limit name store f kind content cause; held = held }

-- a computed step whose value is seen by a view
pub takes_seen : {X T : Type 0} (view : X → T) (result : Result X Fault) {expected : Result T Fault} {tells : Type 0} {held : Held} {faults : List StoreCall} → Gives view expected result
    → Takes (gives expected) (record { tells = tells; held_before = held; held_after = held; faults_before = faults; faults_after = faults }) (seen_by view (refused_by result))
takes_seen view (Ok x) answer = takes_ok (view x) answer
takes_seen view (Err f) answer = takes_fault answer

pub seen_err : {X T : Type 0} (view : X → T) (result : Result X Refusal) (f : Refusal) → IsErrAnd result (λ e. e ≡ f) → IsErrAnd (seen_by view result) (λ e. e ≡ f)
seen_err view (Ok x) f h = absurd h
seen_err view (Err e) f h = h

-- what is made after steps; memory was wanted for it
pub makes_want : {T X : Type 0} (s : Steps T) (P : T → X → Type 0) (result : Result X Refusal) {store : StoreSeen} {x : T} → Takes s store (Ok x) → IsErrAnd result (λ e. e ≡ (refusal.Fault fault.NoMemory)) → Makes s P store result
makes_want {X = X} s P result {store = store} t e =
    let Q : Result X Refusal → Type 0 = λ r. Makes s P store r in at_err Q result (refusal.Fault fault.NoMemory) e (record { goes = t.goes.faults; held = t.held })

pub makes_go : {A B X : Type 0} (s : Steps A) (next : A → Steps B) (P : B → X → Type 0) (result : Result X Refusal) {x : A} {tells : Type 0} {h0 h1 : Held} (h2 : Held) {f0 f1 : List StoreCall} (f2 : List StoreCall)
    → Takes s (record { tells = tells; held_before = h0; held_after = h1; faults_before = f0; faults_after = f1 }) (Ok x)
    → Makes (next x) P (record { tells = tells; held_before = h1; held_after = h2; faults_before = f1; faults_after = f2 }) result
    → Makes (s >>= next) P (record { tells = tells; held_before = h0; held_after = h2; faults_before = f0; faults_after = f2 }) result
makes_go s next P (Ok made) h2 f2 t m = (m.0, takes_go s next t m.1, m.2)
makes_go s next P (Err f) h2 f2 t m = takes_go s next t m

pub makes_end : {A B X : Type 0} (s : Steps A) (next : A → Steps B) (P : B → X → Type 0) (result : Result X Refusal) {store : StoreSeen} {f : Refusal} → Takes s store (Err f) → IsErrAnd result (λ e. e ≡ f)
    → Makes (s >>= next) P store result
makes_end {X = X} s next P result {store = store} {f = f} t e =
    let Q : Result X Refusal → Type 0 = λ r. Makes (s >>= next) P store r in at_err Q result f e (takes_stop s next {result = Err f} t refl)
