use Rattle.std.proofs.Common.{arith}
use Rattle.entries_file.proofs.Digits.{fits_wide, fits_narrow}
use Rattle.entries_file.proofs.numerals.fits.Goals as goal

pub returns-then-width-ge128 : goal.returns-then-width-ge128
returns-then-width-ge128 c = fits_wide c.args.width c.args.value (omega arith) c.if-width-ge128.true

pub returns-else-width-ge128 : goal.returns-else-width-ge128
returns-else-width-ge128 c = fits_narrow c.args.width c.args.value (omega arith)
