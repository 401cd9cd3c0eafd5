-- Laws of a command that goes on with what its first steps gave, and of the two ends of a command: the proofs of commands cite them.
use Rattle.std.proofs.Common.{◌≡◌, ◌⊎◌, inl, inr, ℕ, List, Result, Ok, Err, IsErrAnd, IfErr, IfOk, refl, sym, subst, arith, ◌≤◌, ◌<◌, ◌+◌, ◌++◌, ◌∷◌, zero, suc, [], get_or, ap, ◌∙◌, take, length, add-one, Option, Some, unwrap_or}
use Rattle.link_outside.specs.Outside.{Held, held_with}
use Rattle.link_outside.specs.declared.outside.StoreCall.{StoreCall}
use Rattle.link_outside.specs.declared.refusal.Refusal.{Refusal}
use Rattle.command_scripts.specs.Causes.{Cause, cause_of, the_input, the_memory, the_output, the_store, the_words}
use Rattle.command_scripts.specs.Steps.{load_of, IsUncalled, SinkSeen, StoreSeen, ◌>>=◌, ComesTo, gives, Reaches, Steps, StopsBy, Takes}
use Rattle.command_scripts.specs.Due.{Due, Put, prints, puts, a_put, after_puts, no_put, put_of, EachFails, HandFails, Hands, HandsOver, IsWanted, PutsAll, PutsEach, OneFails, PutsOne}
use Rattle.command_scripts.specs.Does.{Answers, Does, DoesPart, FailsAt, FailsBy, IsDue, Script}
use Rattle.command_scripts.specs.declared.ends.Ended.{Ended}
use Rattle.command_scripts.specs.declared.ends.Ended.TheVariants.{Done}
use Rattle.command_scripts.specs.StepLaws.{at_err, comes_go, comes_stop, from_to, reaches_first, reaches_later, whole}
use Rattle.link_base.specs.declared.fault.Fault.TheVariants as fault
use Rattle.link_outside.specs.declared.refusal.Refusal.TheVariants as refusal

-- a sink between two times
abbrev taken_from_to : Type 0 → List ℕ → List ℕ → ℕ → ℕ → SinkSeen
taken_from_to tells t u n m = record { tells = tells; taken_before = t; taken_after = u; faults_before = n; faults_after = m }

uncalled : (tells : Type 0) (taken : List ℕ) (count : ℕ) → IsUncalled (taken_from_to tells taken taken count count)
uncalled tells taken count = record { taken = refl; faults = refl }

-- what is said of steps is said of those that lead to them
module _ {B : Type 0} (d : B → Due → Type 0) (s t : Steps B) (store : StoreSeen) (comes : (r : Result B Refusal) → ComesTo s store r → ComesTo t store r)
    (reaches : (call : StoreCall) → Reaches s store call → Reaches t store call) where
  abbrev from : Script
  from = record { Found = B; steps = s; due = d }

  abbrev to : Script
  to = record { Found = B; steps = t; due = d }

  due_as : (due : Due) → IsDue from store due → IsDue to store due
  due_as due h = record { found = h.found; steps = comes (Ok h.found) h.steps; so = h.so }

  place_as : (call : StoreCall) → FailsAt from store call → FailsAt to store call
  place_as call (inl h) = inl (reaches call h.0, h.1)
  place_as call (inr h) = inr (h.0, due_as h.0 h.1, h.2)

  part_as : (out : SinkSeen) → (((store.held_after ≡ store.held_before) × IsUncalled out) ⊎ DoesPart from store out) → (((store.held_after ≡ store.held_before) × IsUncalled out) ⊎ DoesPart to store out)
  part_as out (inl h) = inl h
  part_as out (inr h) = inr (record { due = h.due; is_due = due_as h.due h.is_due; held = h.held; taken = h.taken })

  fails_as : (cause : Cause) (out : SinkSeen) (f : Refusal) → FailsBy cause from store out f → FailsBy cause to store out f
  fails_as the_words out f a = a
  fails_as (the_store name) out f a = record { call = a.call; named = a.named; logged = a.logged; place = place_as a.call a.place; quiet = a.quiet }
  fails_as the_output out f a = record { due = a.due; is_due = due_as a.due a.is_due; printed = a.printed; rose = a.rose; taken = a.taken; untouched = a.untouched }
  fails_as the_memory out f a = record { faults = a.faults; counted = a.counted; part = part_as out a.part }
  fails_as the_input out f a = record { first = comes (Err f) a.first; untouched = a.untouched; quiet = a.quiet }

  answers_as : (out : SinkSeen) (answer : Result Ended Refusal) → Answers from store out answer → Answers to store out answer
  answers_as out (Ok ended) a = record { due = a.due; is_due = due_as a.due a.is_due; as_due = a.as_due; held = a.held; taken = a.taken; faults = a.faults }
  answers_as out (Err f) a = fails_as (cause_of f) out f a

-- what follows the first steps follows all
pub does_go : {A B : Type 0} (s : Steps A) (next : A → Steps B) (d : B → Due → Type 0) {x : A} {answer : Result Ended Refusal} {tells : Type 0} {h0 h1 h2 : Held} {f0 f1 f2 : List StoreCall} {out : SinkSeen}
    → Takes s (record { tells = tells; held_before = h0; held_after = h1; faults_before = f0; faults_after = f1 }) (Ok x)
    → Does (record { Found = B; steps = next x; due = d }) (record { tells = tells; held_before = h1; held_after = h2; faults_before = f1; faults_after = f2 }) out answer
    → Does (record { Found = B; steps = s >>= next; due = d }) (record { tells = tells; held_before = h0; held_after = h2; faults_before = f0; faults_after = f2 }) out answer
does_go {B = B} s next d {x = x} {answer = answer} {tells = tells} {h0 = h0} {h1 = h1} {h2 = h2} {f0 = f0} {f1 = f1} {f2 = f2} {out = out} t u =
    let first : Script = record { Found = B; steps = next x; due = d } in
    let P : Held → Type 0 = λ h. Does first (from_to tells h h2 f1 f2) out answer in
    let Q : List StoreCall → Type 0 = λ f. Does first (from_to tells h0 h2 f f2) out answer in
    let v : Q f0 = subst Q t.goes.faults (subst P t.held u) in
    record {
      answers = answers_as d (next x) (s >>= next) (from_to tells h0 h2 f0 f2) (λ r. comes_go s next x r tells h0 h1 h2 f0 f1 f2 t.goes.to) (λ call. reaches_later s next x call tells h0 h1 h2 f0 f1 f2 t.goes.to) out answer v.answers;
      later = v.later;
    }

-- a command stops at a fault of its steps
stops : {A : Type 0} (cause : Cause) (s : Steps A) (script : Script) (f : Refusal) (store : StoreSeen) (tells : Type 0) (taken : List ℕ) (count : ℕ)
    → (ComesTo s store (Err f) → ComesTo script.steps store (Err f)) → ((call : StoreCall) → Reaches s store call → Reaches script.steps store call)
    → StopsBy cause s store f → store.held_after ≡ store.held_before → FailsBy cause script store (taken_from_to tells taken taken count count) f
stops the_words s script f store tells taken count c r k held = absurd k
stops (the_store name) s script f store tells taken count c r k held =
    record { call = load_of name; named = refl; logged = k.logged; place = inl (r (load_of name) k.reached, held); quiet = uncalled tells taken count }
stops the_output s script f store tells taken count c r k held = absurd k
stops the_memory s script f store tells taken count c r k held = record { faults = k; counted = refl; part = inl (held, uncalled tells taken count) }
stops the_input s script f store tells taken count c r k held =
    record { first = c k.to; untouched = record { held = held; faults = k.faults }; quiet = uncalled tells taken count }

-- a fault of the first steps ends the command
pub does_stop : {A B : Type 0} (s : Steps A) (next : A → Steps B) (d : B → Due → Type 0) {f : Refusal} {tells told_out : Type 0} {h0 h2 : Held} {f0 f2 : List StoreCall} {taken : List ℕ} {count : ℕ} {answer : Result Ended Refusal}
    → Takes s (record { tells = tells; held_before = h0; held_after = h2; faults_before = f0; faults_after = f2 }) (Err f) → IsErrAnd answer (λ e. e ≡ f)
    → Does (record { Found = B; steps = s >>= next; due = d }) (record { tells = tells; held_before = h0; held_after = h2; faults_before = f0; faults_after = f2 })
    (record { tells = told_out; taken_before = taken; taken_after = taken; faults_before = count; faults_after = count }) answer
does_stop {B = B} s next d {f = f} {tells = tells} {told_out = told_out} {h0 = h0} {h2 = h2} {f0 = f0} {f2 = f2} {taken = taken} {count = count} {answer = answer} t e =
    let to : Script = record { Found = B; steps = s >>= next; due = d } in
    let P : Result Ended Refusal → Type 0 = λ r. Does to (from_to tells h0 h2 f0 f2) (taken_from_to told_out taken taken count count) r in
    at_err P answer f e (record {
      answers = stops (cause_of f) s to f (from_to tells h0 h2 f0 f2) told_out taken count (comes_stop s next f (from_to tells h0 h2 f0 f2)) (reaches_first s next (from_to tells h0 h2 f0 f2)) t.goes t.held;
      later = omega arith;
    })

-- a fault of the steps ends the command
pub does_fail : {T : Type 0} (s : Steps T) (d : T → Due → Type 0) {f : Refusal} {tells told_out : Type 0} {h0 h2 : Held} {f0 f2 : List StoreCall} {taken : List ℕ} {count : ℕ} {answer : Result Ended Refusal}
    → Takes s (record { tells = tells; held_before = h0; held_after = h2; faults_before = f0; faults_after = f2 }) (Err f) → IsErrAnd answer (λ e. e ≡ f)
    → Does (record { Found = T; steps = s; due = d }) (record { tells = tells; held_before = h0; held_after = h2; faults_before = f0; faults_after = f2 })
    (record { tells = told_out; taken_before = taken; taken_after = taken; faults_before = count; faults_after = count }) answer
does_fail {T = T} s d {f = f} {tells = tells} {told_out = told_out} {h0 = h0} {h2 = h2} {f0 = f0} {f2 = f2} {taken = taken} {count = count} {answer = answer} t e =
    let P : Steps T → Type 0 = λ w. Does (record { Found = T; steps = w; due = d }) (from_to tells h0 h2 f0 f2) (taken_from_to told_out taken taken count count) answer in
    subst P (whole s) (does_stop s (λ x. gives (Ok x)) d t e)

-- memory was wanted before anything was done
pub does_want : (to : Script) {tells told_out : Type 0} {held : Held} {faults : List StoreCall} {taken : List ℕ} {count : ℕ} {answer : Result Ended Refusal}
    → IsErrAnd answer (λ e. e ≡ (refusal.Fault fault.NoMemory))
    → Does to (record { tells = tells; held_before = held; held_after = held; faults_before = faults; faults_after = faults })
    (record { tells = told_out; taken_before = taken; taken_after = taken; faults_before = count; faults_after = count }) answer
does_want to {tells = tells} {told_out = told_out} {held = held} {faults = faults} {taken = taken} {count = count} {answer = answer} e =
    let P : Result Ended Refusal → Type 0 = λ r. Does to (from_to tells held held faults faults) (taken_from_to told_out taken taken count count) r in
    at_err P answer (refusal.Fault fault.NoMemory) e (record { answers = record { faults = refl; counted = refl; part = inl (refl, uncalled told_out taken count) }; later = omega arith })

-- memory was wanted after the steps
pub does_want_after : {T : Type 0} (s : Steps T) (d : T → Due → Type 0) {x : T} {tells told_out : Type 0} {h0 h2 : Held} {f0 f2 : List StoreCall} {taken : List ℕ} {count : ℕ} {answer : Result Ended Refusal}
    → Takes s (record { tells = tells; held_before = h0; held_after = h2; faults_before = f0; faults_after = f2 }) (Ok x) → IsErrAnd answer (λ e. e ≡ (refusal.Fault fault.NoMemory))
    → Does (record { Found = T; steps = s; due = d }) (record { tells = tells; held_before = h0; held_after = h2; faults_before = f0; faults_after = f2 })
    (record { tells = told_out; taken_before = taken; taken_after = taken; faults_before = count; faults_after = count }) answer
does_want_after {T = T} s d {x = x} {tells = tells} {told_out = told_out} {h0 = h0} {h2 = h2} {f0 = f0} {f2 = f2} {taken = taken} {count = count} {answer = answer} t e =
    let P : Steps T → Type 0 = λ v. Does (record { Found = T; steps = v; due = d }) (from_to tells h0 h2 f0 f2) (taken_from_to told_out taken taken count count) answer in
    subst P (whole s) (does_go s (λ y. gives (Ok y)) d t (does_want _ e))

-- what was found is due
found_due : {T : Type 0} (x : T) (d : T → Due → Type 0) (store : StoreSeen) (due : Due) → d x due → IsDue (record { Found = T; steps = gives (Ok x); due = d }) store due
found_due x d store due is = record { found = x; steps = record { possible = refl; told = λ t. refl }; so = is }

hand_fails : {T : Type 0} (cause : Cause) (x : T) (d : T → Due → Type 0) (ended : Ended) (text : List ℕ) (f : Refusal) (tells : Type 0) (held : Held) (faults : List StoreCall) (out : SinkSeen)
    → d x (prints ended text) → HandFails cause text out → FailsBy cause (record { Found = T; steps = gives (Ok x); due = d }) (from_to tells held held faults faults) out f
hand_fails the_output x d ended text f tells held faults out is w = record {
  due = prints ended text;
  is_due = found_due x d (from_to tells held held faults faults) (prints ended text) is;
  printed = tt;
  rose = w.0;
  taken = w.1;
  untouched = record { held = refl; faults = refl };
}
hand_fails the_memory x d ended text f tells held faults out is w = record {
  faults = refl;
  counted = w.0;
  part = inr (record { due = prints ended text; is_due = found_due x d (from_to tells held held faults faults) (prints ended text) is; held = refl; taken = w.1 });
}
hand_fails cause x d ended text f tells held faults out is w = absurd w

prints_so : {T : Type 0} (x : T) (d : T → Due → Type 0) (ended : Ended) (text : List ℕ) (answer : Result Ended Refusal) (tells : Type 0) (held : Held) (faults : List StoreCall) (out : SinkSeen)
    → d x (prints ended text) → Hands ended text out answer
    → Answers (record { Found = T; steps = gives (Ok x); due = d }) (from_to tells held held faults faults) out answer
prints_so x d ended text (Ok e) tells held faults out is w = record {
  due = prints ended text;
  is_due = found_due x d (from_to tells held held faults faults) (prints ended text) is;
  as_due = sym w.0;
  held = refl;
  taken = (w.1, w.2);
  faults = refl;
}
prints_so x d ended text (Err f) tells held faults out is w = hand_fails (cause_of f) x d ended text f tells held faults out is w

-- a command ends with a text for `out`
pub does_print : {T : Type 0} (s : Steps T) (d : T → Due → Type 0) {x : T} {ended : Ended} {text : List ℕ} {answer : Result Ended Refusal} {tells : Type 0} {h0 h2 : Held} {f0 f2 : List StoreCall} {out : SinkSeen}
    → Takes s (record { tells = tells; held_before = h0; held_after = h2; faults_before = f0; faults_after = f2 }) (Ok x) → HandsOver ended text out answer → d x (prints ended text)
    → Does (record { Found = T; steps = s; due = d }) (record { tells = tells; held_before = h0; held_after = h2; faults_before = f0; faults_after = f2 }) out answer
does_print {T = T} s d {x = x} {ended = ended} {text = text} {answer = answer} {tells = tells} {h0 = h0} {h2 = h2} {f0 = f0} {f2 = f2} {out = out} t w is =
    let P : Steps T → Type 0 = λ v. Does (record { Found = T; steps = v; due = d }) (from_to tells h0 h2 f0 f2) out answer in
    let here : Does (record { Found = T; steps = gives (Ok x); due = d }) (from_to tells h2 h2 f2 f2) out answer =
    record { answers = prints_so x d ended text answer tells h2 f2 out is w.ways; later = w.later } in
    subst P (whole s) (does_go s (λ y. gives (Ok y)) d t here)

-- memory was wanted for a text after the steps
does_wanted : {T : Type 0} (s : Steps T) (d : T → Due → Type 0) {x : T} {store : StoreSeen} {out : SinkSeen} {answer : Result Ended Refusal}
    → Takes s store (Ok x) → IsWanted out answer → Does (record { Found = T; steps = s; due = d }) store out answer
does_wanted {T = T} s d {store = store} {out = out} {answer = answer} t w =
    let to : Script = record { Found = T; steps = s; due = d } in
    let P : Result Ended Refusal → Type 0 = λ r. Does to store out r in
    let same = w.quiet.faults in
    subst P (sym w.wants) (record { answers = record { faults = t.goes.faults; counted = same; part = inl (t.held, w.quiet) }; later = omega arith })

-- a command ends with a text for `out`, where there was the memory to make it
pub does_lines : {T E : Type 0} (s : Steps T) (d : T → Due → Type 0) (P : List ℕ → Type 0) (lines : Result (List ℕ) E) {x : T} {answer : Result Ended Refusal} {tells : Type 0} {h0 h2 : Held} {f0 f2 : List StoreCall} {out : SinkSeen}
    → Takes s (record { tells = tells; held_before = h0; held_after = h2; faults_before = f0; faults_after = f2 }) (Ok x) → ((text : List ℕ) → P text → d x (prints Done text)) → IfOk lines P
    → IfOk lines (λ text. HandsOver Done text out answer) → IfErr lines (λ e. IsWanted out answer)
    → Does (record { Found = T; steps = s; due = d }) (record { tells = tells; held_before = h0; held_after = h2; faults_before = f0; faults_after = f2 }) out answer
does_lines s d P (Ok text) t is made printed wanted = does_print s d t printed (is text made)
does_lines s d P (Err e) t is made printed wanted = does_wanted s d t wanted

each_fails : {T : Type 0} (cause : Cause) (x : T) (d : T → Due → Type 0) (all : List Put) (f : Refusal) (store : StoreSeen) (told_out : Type 0) (taken : List ℕ) (count : ℕ)
    → d x (puts all) → EachFails cause all store → FailsBy cause (record { Found = T; steps = gives (Ok x); due = d }) store (taken_from_to told_out taken taken count count) f
each_fails (the_store name) x d all f store told_out taken count is w = record {
  call = w.0;
  named = w.1;
  logged = w.2;
  place = inr (puts all, found_due x d store (puts all) is, w.3);
  quiet = uncalled told_out taken count;
}
each_fails the_memory x d all f store told_out taken count is w = record {
  faults = w.0;
  counted = refl;
  part = inr (record { due = puts all; is_due = found_due x d store (puts all) is; held = w.1; taken = uncalled told_out taken count });
}
each_fails cause x d all f store told_out taken count is w = absurd w

puts_so : {T : Type 0} (x : T) (d : T → Due → Type 0) (all : List Put) (answer : Result Ended Refusal) (store : StoreSeen) (told_out : Type 0) (taken : List ℕ) (count : ℕ)
    → d x (puts all) → PutsEach all store answer
    → Answers (record { Found = T; steps = gives (Ok x); due = d }) store (taken_from_to told_out taken taken count count) answer
puts_so x d all (Ok e) store told_out taken count is w = record {
  due = puts all;
  is_due = found_due x d store (puts all) is;
  as_due = sym w.0;
  held = w.2;
  taken = uncalled told_out taken count;
  faults = w.1;
}
puts_so x d all (Err f) store told_out taken count is w = each_fails (cause_of f) x d all f store told_out taken count is w

-- a command ends with puts
pub does_puts : {T : Type 0} (s : Steps T) (d : T → Due → Type 0) {x : T} {all : List Put} {answer : Result Ended Refusal} {tells told_out : Type 0} {h0 h1 h2 : Held} {f0 f1 f2 : List StoreCall} {taken : List ℕ} {count : ℕ}
    → Takes s (record { tells = tells; held_before = h0; held_after = h1; faults_before = f0; faults_after = f1 }) (Ok x)
    → PutsAll all (record { tells = tells; held_before = h1; held_after = h2; faults_before = f1; faults_after = f2 }) answer → d x (puts all)
    → Does (record { Found = T; steps = s; due = d }) (record { tells = tells; held_before = h0; held_after = h2; faults_before = f0; faults_after = f2 })
    (record { tells = told_out; taken_before = taken; taken_after = taken; faults_before = count; faults_after = count }) answer
does_puts {T = T} s d {x = x} {all = all} {answer = answer} {tells = tells} {told_out = told_out} {h0 = h0} {h1 = h1} {h2 = h2} {f0 = f0} {f1 = f1} {f2 = f2} {taken = taken} {count = count} t w is =
    let P : Steps T → Type 0 = λ v. Does (record { Found = T; steps = v; due = d }) (from_to tells h0 h2 f0 f2) (taken_from_to told_out taken taken count count) answer in
    let here : Does (record { Found = T; steps = gives (Ok x); due = d }) (from_to tells h1 h2 f1 f2) (taken_from_to told_out taken taken count count) answer =
    record { answers = puts_so x d all answer (from_to tells h1 h2 f1 f2) told_out taken count is w.ways; later = omega arith } in
    subst P (whole s) (does_go s (λ y. gives (Ok y)) d t here)

-- Laws of puts one after the other: the proofs of calls that put cite them.

-- one put more
after_suc : (all : List Put) (n : ℕ) (held : Held) → n < length all
    → after_puts (take (suc n) all) held ≡ held_with (get_or all n no_put).name (get_or all n no_put).bytes (after_puts (take n all) held)
after_suc [] n held h = absurd (omega arith)
after_suc (put ∷ rest) zero held h = refl
after_suc (put ∷ rest) (suc n) held h = after_suc rest n (held_with put.name put.bytes held) (omega arith)

pub after_one : (all : List Put) (n : ℕ) (held : Held) → n < length all
    → after_puts (take (n + 1) all) held ≡ held_with (get_or all n no_put).name (get_or all n no_put).bytes (after_puts (take n all) held)
after_one all n held h = ap (λ k. after_puts (take k all) held) (add-one n) ∙ after_suc all n held h

-- a put that failed, after those before it
one_of : (all : List Put) (n : ℕ) (h0 h1 h2 : Held) → n < length all → h1 ≡ after_puts (take n all) h0
    → (h2 ≡ h1) ⊎ (h2 ≡ held_with (get_or all n no_put).name (get_or all n no_put).bytes h1)
    → (h2 ≡ after_puts (take n all) h0) ⊎ (h2 ≡ after_puts (take (n + 1) all) h0)
one_of all n h0 h1 h2 lt e (inl s) = inl (s ∙ e)
one_of all n h0 h1 h2 lt e (inr s) =
    inr (s ∙ ap (λ h. held_with (get_or all n no_put).name (get_or all n no_put).bytes h) e ∙ sym (after_one all n h0 lt))

some_of : (all : List Put) (n : ℕ) (h0 h2 : Held) → n < length all → (h2 ≡ after_puts (take n all) h0) ⊎ (h2 ≡ after_puts (take (n + 1) all) h0)
    → (count : ℕ) × (count ≤ length all) × (h2 ≡ after_puts (take count all) h0)
some_of all n h0 h2 lt (inl e) = (n, omega arith, e)
some_of all n h0 h2 lt (inr e) = (n + 1, omega arith, e)

-- a put that failed ends them
fails_each : (cause : Cause) (all : List Put) (n : ℕ) (put : Put) (tells : Type 0) (h0 h1 h2 : Held) (f0 f1 f2 : List StoreCall) → n < length all → get_or all n no_put ≡ put
    → f1 ≡ f0 → (tells → h1 ≡ after_puts (take n all) h0)
    → OneFails cause put (record { tells = tells; held_before = h1; held_after = h2; faults_before = f1; faults_after = f2 })
    → EachFails cause all (record { tells = tells; held_before = h0; held_after = h2; faults_before = f0; faults_after = f2 })
fails_each (the_store name) all n put tells h0 h1 h2 f0 f1 f2 lt e same told_held v =
    let Q : Put → Type 0 = λ p. (h2 ≡ h1) ⊎ (h2 ≡ held_with p.name p.bytes h1) in
    let called : put_of put.name ≡ put_of (get_or all n no_put).name = ap (λ (p : Put). put_of p.name) (sym e) in
    (put_of put.name, sym v.0, v.1 ∙ ap (λ (fs : List StoreCall). fs ++ put_of put.name ∷ []) same, (n, lt, called, λ told. one_of all n h0 h1 h2 lt (told_held told) (subst Q (sym e) (v.2 told))))
fails_each the_memory all n put tells h0 h1 h2 f0 f1 f2 lt e same told_held v =
    let Q : Put → Type 0 = λ p. (h2 ≡ h1) ⊎ (h2 ≡ held_with p.name p.bytes h1) in
    (v.0 ∙ same, λ told. some_of all n h0 h2 lt (one_of all n h0 h1 h2 lt (told_held told) (subst Q (sym e) (v.1 told))))
fails_each cause all n put tells h0 h1 h2 f0 f1 f2 lt e same told_held v = absurd v

pub puts_stop : (all : List Put) (n : ℕ) (put : Put) (f : Refusal) (tells : Type 0) (h0 h1 h2 : Held) (f0 f1 f2 : List StoreCall) → n < length all → get_or all n no_put ≡ put
    → f1 ≡ f0 → (tells → h1 ≡ after_puts (take n all) h0)
    → PutsOne {T = Unit {0}} put (record { tells = tells; held_before = h1; held_after = h2; faults_before = f1; faults_after = f2 }) (Err f)
    → PutsEach all (record { tells = tells; held_before = h0; held_after = h2; faults_before = f0; faults_after = f2 }) (Err f)
puts_stop all n put f tells h0 h1 h2 f0 f1 f2 lt e same told_held v = fails_each (cause_of f) all n put tells h0 h1 h2 f0 f1 f2 lt e same told_held v

-- a put that was made is one more of them
pub puts_go : (all : List Put) (n : ℕ) (put : Put) (h0 h1 h2 : Held) → n < length all → get_or all n no_put ≡ put → h1 ≡ after_puts (take n all) h0 → h2 ≡ held_with put.name put.bytes h1
    → h2 ≡ after_puts (take (n + 1) all) h0
puts_go all n put h0 h1 h2 lt e before made =
    let P : Put → Type 0 = λ p. h2 ≡ held_with p.name p.bytes h1 in
    subst P (sym e) made ∙ ap (λ (h : Held). held_with (get_or all n no_put).name (get_or all n no_put).bytes h) before ∙ sym (after_one all n h0 lt)

-- what is put under the name of a plan's journal
pub journal_put : (name : List ℕ) (journal : Option (List ℕ)) (b bytes : List ℕ) → Some name ≡ journal → b ≡ bytes
    → a_put name b ∷ [] ≡ a_put (unwrap_or journal []) bytes ∷ []
journal_put name journal b bytes of_name of_bytes = λ i. a_put (unwrap_or (of_name i) []) (of_bytes i) ∷ []

-- puts that were made are these, where both are the same
pub puts_as : {store : StoreSeen} {answer : Result Ended Refusal} (all same : List Put) → all ≡ same → PutsAll all store answer → PutsAll same store answer
puts_as {store = store} {answer = answer} all same e h = subst (λ (ps : List Put). PutsAll ps store answer) e h
