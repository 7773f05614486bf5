-- The message of a table's error.
use Rattle.std.specs.Prelude.{List, ℕ, ◌++◌, codes}
use Rattle.reqtable_table.specs.declared.table.TableError.{TableError}
use Rattle.reqtable_table.specs.declared.table.TableError.TheVariants.{TooManyCases, TooManyCasesInAll}
use Rattle.reqtable_table.specs.declared.table.TableError.TheVariants.{Memory}

abbrev pub table_error_text : TableError → List ℕ
table_error_text (TooManyCases name) = name ++ codes ": too many cases"
table_error_text TooManyCasesInAll = codes "too many cases in all"
table_error_text Memory = codes "out of memory"
