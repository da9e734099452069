-- What the exported function yields.
pub mod Entry
