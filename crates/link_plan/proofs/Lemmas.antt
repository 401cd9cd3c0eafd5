-- Lists that are walked: one more item.
use Rattle.std.proofs.Common.{◌≡◌, ◌<◌, ◌+◌, ◌++◌, ◌∷◌, ◌∙◌, ℕ, List, [], length, get_or, take, map, ap, sym, ◌≢◌, Bool, refl, Some, None, arith, All, IfSome, Option, is_some, option_to_list}
use Rattle.std.proofs.lemmas.List.{map_push, take_more, get_or-map, length-map}
use Rattle.std.proofs.lemmas.List.Elements.{All-cons, All-head, All-map, All-tail, All-weaker}
use Rattle.value_forms.specs.declared.canons.Canon.{Canon}
use Rattle.value_forms.specs.declared.canons.CompareKind.{CompareKind}
use Rattle.link_base.specs.declared.plan.FieldSort.{FieldSort}
use Rattle.link_base.specs.declared.plan.FieldSort.TheVariants as sort
use Rattle.value_forms.specs.declared.passes.Part.{Part}
use Rattle.link_plan.specs.Plan.{FieldKeys}
use Rattle.link_plan.specs.Ranges.{AreFiles, HaveDistinctNames, IsField, IsPart, IsPass, KeepsRanges, NamesFiles, files_read, has_comparison, is_keyed}
use Rattle.link_plan.specs.Within.{field_within, plan_within, sort_within}
use Rattle.link_plan.specs.declared.plan.Plan.{Plan}

-- one more of what each item gives
pub mapped_more : {E T : Type 0} (f : E → T) (all : List E) (i : ℕ) (e : E) (made : T) (copy more : List T) → i < length all → e ≡ get_or all i e → made ≡ f e
    → copy ≡ map f (take i all) → more ≡ copy ++ made ∷ [] → more ≡ map f (take (i + 1) all)
mapped_more f all i e made copy more lt is same so_far pushed =
    pushed ∙ ap (λ c. c ++ made ∷ []) so_far ∙ ap (λ x. map f (take i all) ++ x ∷ []) (same ∙ ap f is) ∙ sym (ap (map f) (take_more all i e lt) ∙ map_push f (take i all) (get_or all i e))

-- one more equal item
pub copied_more : {E : Type 0} (all : List E) (i : ℕ) (e made : E) (copy more : List E) → i < length all → e ≡ get_or all i e → made ≡ e
    → copy ≡ take i all → more ≡ copy ++ made ∷ [] → more ≡ take (i + 1) all
copied_more all i e made copy more lt is same so_far pushed =
    pushed ∙ ap (λ c. c ++ made ∷ []) so_far ∙ ap (λ x. take i all ++ x ∷ []) (same ∙ is) ∙ sym (take_more all i e lt)

-- The plan of a file with itself keeps the ranges of the plan.

-- whether a sort of field has a comparison, or a key, does not depend on the forms of dates
comparison_within : (s : FieldSort) (c : CompareKind) → has_comparison (sort_within s) c ≡ has_comparison s c
comparison_within sort.Name c = refl
comparison_within sort.Place c = refl
comparison_within (sort.Date a b) c = refl

key_within : (s : FieldSort) (k : Canon) → is_keyed (sort_within s) k ≡ is_keyed s k
key_within sort.Name k = refl
key_within sort.Place k = refl
key_within (sort.Date a b) k = refl

apart_within : (name_a name_b : List ℕ) (sample journal : Option (List ℕ))
    → IfSome journal (λ (name : List ℕ). All (λ (other : List ℕ). name ≢ other) (files_read name_a name_b sample))
    → IfSome journal (λ (name : List ℕ). All (λ (other : List ℕ). name ≢ other) (files_read name_a name_a sample))
apart_within name_a name_b sample None h = h
apart_within name_a name_b sample (Some name) h =
    let other : List ℕ → Type 0 = λ other. name ≢ other in
    let first = All-head other name_a (name_b ∷ option_to_list sample) h in
    let rest = All-tail other name_b (option_to_list sample) (All-tail other name_a (name_b ∷ option_to_list sample) h) in
    All-cons other name_a (name_a ∷ option_to_list sample) first (All-cons other name_a (option_to_list sample) first rest)

files_within : (name_a name_b : List ℕ) (sample journal : Option (List ℕ)) → AreFiles name_a name_b sample journal → AreFiles name_a name_a sample journal
files_within name_a name_b sample journal h = record {
  file_a = h.file_a;
  file_b = h.file_a;
  sample = h.sample;
  journal = h.journal;
  apart = apart_within name_a name_b sample journal h.apart;
}

is_field_within : (sampled : Bool) (f : FieldKeys) → IsField sampled f → IsField sampled (field_within f)
is_field_within sampled f h = record {
  name = h.name;
  column_a = h.column_a;
  column_b = h.column_a;
  compare = comparison_within f.sort f.compare ∙ h.compare;
  rare = h.rare;
  given = h.given;
  shares = h.shares;
}

distinct_within : (fields : List FieldKeys) → HaveDistinctNames fields → HaveDistinctNames (map field_within fields)
distinct_within fields h = λ i j d below within.
    let j_lt : j < length fields = rw length-map at within in
    let i_lt : i < length fields = omega arith in
    rw (get_or-map field_within fields i d d i_lt, get_or-map field_within fields j d d j_lt) (h i j d below j_lt)

is_part_within : (fields : List FieldKeys) (p : Part) → IsPart fields p → IsPart (map field_within fields) p
is_part_within fields p h = record {
  field = rw length-map h.field;
  key = λ d. rw (get_or-map field_within fields p.field d d h.field) (key_within (get_or fields p.field d).sort p.key ∙ h.key d);
}

is_pass_within : (fields : List FieldKeys) (pass : List Part) → IsPass fields pass → IsPass (map field_within fields) pass
is_pass_within fields pass h = record {
  some = h.some;
  few = h.few;
  parts = All-weaker (IsPart fields) (IsPart (map field_within fields)) (is_part_within fields) pass h.parts;
}

pub ranges_within : (plan : Plan) → KeepsRanges plan → KeepsRanges (plan_within plan)
ranges_within plan r = record {
  files = files_within plan.file_a plan.file_b plan.sample plan.journal r.files;
  id_a = r.id_a;
  id_b = r.id_a;
  delimiter_a = r.delimiter_a;
  delimiter_b = r.delimiter_a;
  terms = r.terms;
  tables = r.tables;
  some_fields = rw length-map r.some_fields;
  few_fields = rw length-map r.few_fields;
  fields = All-map (IsField (is_some plan.sample)) field_within plan.fields (All-weaker (IsField (is_some plan.sample)) (λ f. IsField (is_some plan.sample) (field_within f)) (is_field_within (is_some plan.sample)) plan.fields r.fields);
  distinct_fields = distinct_within plan.fields r.distinct_fields;
  some_passes = r.some_passes;
  few_passes = r.few_passes;
  passes = All-weaker (IsPass plan.fields) (IsPass (map field_within plan.fields)) (is_pass_within plan.fields) plan.passes r.passes;
}

pub names_within : (plan : Plan) → NamesFiles plan → NamesFiles (plan_within plan)
names_within plan n = record { file_a = n.file_a; file_b = n.file_a; sample = n.sample; journal = n.journal }
