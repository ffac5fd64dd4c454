mod RowsLeft
