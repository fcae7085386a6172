use Rattle.std.proofs.Common.{◌≡◌, Some, None, Ok, rules}
use Rattle.reader.specs.Forms.{told_of, line_told}
use Rattle.reader.proofs.Declining.{declines}
use Rattle.reader.proofs.Exactly.{exactly}
use Rattle.reader.proofs.lines.read_line.Goals as goal

pub returns-then-is_empty-clause-law : goal.returns-then-is_empty-clause-law
returns-then-is_empty-clause-law c = let e : told_of (Ok None) ≡ line_told c.args.line.now = search rules in exactly _ _ e

pub returns-in_err-form-clause-law : goal.returns-in_err-form-clause-law
returns-in_err-form-clause-law c = let e : told_of c.from_residual-in_err-form.result ≡ line_told c.args.line.now = search rules in exactly _ _ e

pub returns-clause-law : goal.returns-clause-law
returns-clause-law c = let e : told_of (Ok (Some c.in_ok-form.form)) ≡ line_told c.args.line.now = search rules in exactly _ _ e

pub returns-then-is_empty-clause-declines : goal.returns-then-is_empty-clause-declines
returns-then-is_empty-clause-declines c = let e : told_of (Ok None) ≡ line_told c.args.line.now = search rules in declines _ _ e

pub returns-in_err-form-clause-declines : goal.returns-in_err-form-clause-declines
returns-in_err-form-clause-declines c = let e : told_of c.from_residual-in_err-form.result ≡ line_told c.args.line.now = search rules in declines _ _ e

pub returns-clause-declines : goal.returns-clause-declines
returns-clause-declines c = let e : told_of (Ok (Some c.in_ok-form.form)) ≡ line_told c.args.line.now = search rules in declines _ _ e

pub returns-in_err-check_bytes-clause-declines : goal.returns-in_err-check_bytes-clause-declines
returns-in_err-check_bytes-clause-declines c = let e : told_of c.from_residual.result ≡ line_told c.args.line.now = search rules in declines _ _ e
