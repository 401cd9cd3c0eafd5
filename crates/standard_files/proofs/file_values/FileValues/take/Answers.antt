use Rattle.std.proofs.Common.{◌++◌, ◌∷◌, ◌∙◌, [], List, ap, refl}
use Rattle.std.specs.Option.{option_or}
use Rattle.link_base.specs.Words.{WrittenRows}
use Rattle.link_base.specs.declared.standard.Value.{Value}
use Rattle.standard_files.proofs.FileSteps.{has_more}
use Rattle.standard_files.proofs.file_values.FileValues.take.Goals as goal

pub returns-clause-kept : goal.returns-clause-kept
returns-clause-kept c rows h =
    let told = c.in_ok-take_in.ensures in
    let row = c.take_in.new.rows.row in
    let grown = c.in_ok-close.ensures in
    let same = c.deref.ensures.value in
    has_more c.args.tables.now c.args.self.now.sorts.items c.args.self.now _ rows c.args.row.now row c.take_in.new.self.unreadable c.take_in.new.self.first h
    (rw same at told.made)
    (record {
      closed = ap (λ (w : WrittenRows). w.row) grown;
      rows = ap (λ (w : WrittenRows). w.rows) grown ∙ ap (λ (l : List (List Value)). l ++ row ∷ []) told.rows;
      one_more = refl;
      unreadable = refl;
      first = c.or-self.ensures ∙ ap (option_or c.args.self.now.first) c.date_of.ensures;
    })
