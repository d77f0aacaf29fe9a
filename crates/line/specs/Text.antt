-- A text and its lines: from Line. Assumes nothing.
pub use Rattle.line.specs.Line.{lf, cr, Lacks, Cut, Ended, none, more, nothing, unfinished, line, dropped, bare}
