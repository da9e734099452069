-- What the contracts of lines say beyond the rule book's Lines, and the laws behind it.
pub mod LineEnd
