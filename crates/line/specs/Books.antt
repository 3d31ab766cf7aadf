-- A line as the model has it.
use Rattle.std.specs.Prelude.{Some, None, Option}
use Rattle.line.specs.declared.book.Book.{Book as Opened}
use Rattle.line.specs.Tables.{view_tables}
use Rattle.ordering.specs.Lines.{Book, Line, closed, opened}

abbrev pub view_book : Opened → Book
view_book b = view_tables b.tables

abbrev pub view_line : Option Opened → Line
view_line None = closed
view_line (Some b) = opened (view_book b)
