-- To compute what an image says, name `computes` on an `unfolding` line: it opens all that the header's fault, cells, numbers and places
-- compute with. Assumes nothing.
use Rattle.lists.specs.First.{expect, ◌▷◌, first_fault}
use Rattle.lists.specs.Every.{every, position, total, absent, distinct}
use Rattle.tables.specs.Layout.{tables_of, table_count, row_width, most_rows}
use Rattle.tables.specs.Image.{word_at, end_of, start_of, cell_at, row_in}
use Rattle.tables.specs.Header.{table_fault, edition_fault}
use Rattle.tables.specs.Columns.{is_composite, innermost_in, innermost, fragment_set}
use Rattle.tables.specs.Keys.{key_of}
use Rattle.tables.specs.Numbering.{set_end, set_start, owns_set, next_set, home_set, is_holder, next_value, holder_of, level_in, level}
use Rattle.tables.specs.Lookup.{rows_place, set_place}

unfoldable pub computes : Unit {0}
unfolding
    expect ◌▷◌ first_fault every position total absent distinct
    tables_of table_count row_width most_rows word_at end_of start_of cell_at row_in table_fault edition_fault
    is_composite innermost_in innermost fragment_set key_of
    set_end set_start owns_set next_set home_set is_holder next_value holder_of level_in level
    rows_place set_place
computes = tt
