-- Bytes and quoted words, for those who need no more. Assumes nothing.
unfoldable pub use Rattle.terms.specs.Words.{Bytes, ascii}
