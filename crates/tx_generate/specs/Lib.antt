-- In reading order.
-- The generated table: what is drawn for its rows, and their text.
pub mod Generated
-- Laws above the definition of the table.
pub mod Laws
