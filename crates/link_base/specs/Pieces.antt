-- The pieces that the text of a fault is written of: machinery of `push_fault`, whose clause speaks of the text alone.
use Rattle.std.specs.Prelude.{ℕ, List, [], ◌++◌, decimal}
use Rattle.link_base.specs.Fault.{role_name, row_name}
use Rattle.link_base.specs.declared.piece.Piece.{Piece}
use Rattle.link_base.specs.declared.piece.Piece.TheVariants as piece
use Rattle.link_base.specs.declared.piece.Pieces.{Pieces}

abbrev pub piece_text : Piece → List ℕ
piece_text piece.Nothing = []
piece_text (piece.Words words) = words.now
piece_text (piece.Name name) = name.now
piece_text (piece.Number number) = decimal number
piece_text (piece.File r) = role_name r
piece_text (piece.Row r row) = row_name (role_name r) row

abbrev pub pieces_text : Pieces → List ℕ
pieces_text p = piece_text p.first ++ piece_text p.second ++ piece_text p.third ++ piece_text p.fourth ++ piece_text p.fifth
