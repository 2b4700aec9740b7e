use Rattle.std.proofs.Common.{◌≡◌, subst}
use Rattle.chat_change.specs.declared.change.Change.TheVariants.{Post, Redact, Mark, Floor, AccountFloor}
use Rattle.chat_change.specs.Lawful.{IsLawfulChange}
use Rattle.change_lines.proofs.ReadBackLemmas.{read_back}
use Rattle.change_lines.proofs.change_text.write_change.Goals as goal

pub returns-in-Post-clause-read_back : goal.returns-in-Post-clause-read_back
returns-in-Post-clause-read_back g c =
    let e : Post c.in-Post.record ≡ c.args.change.now = cc in
    read_back c.args.change.now (subst IsLawfulChange e c.put_post.ensures.lawful)

pub returns-in-Redact-clause-read_back : goal.returns-in-Redact-clause-read_back
returns-in-Redact-clause-read_back g c =
    let e : Redact c.in-Redact.buffer c.in-Redact.id c.in-Redact.at ≡ c.args.change.now = cc in
    read_back c.args.change.now (subst IsLawfulChange e c.put_redaction.ensures.lawful)

pub returns-in-Mark-clause-read_back : goal.returns-in-Mark-clause-read_back
returns-in-Mark-clause-read_back g c =
    let e : Mark c.in-Mark.buffer c.in-Mark.at ≡ c.args.change.now = cc in
    read_back c.args.change.now (subst IsLawfulChange e (c.put_moment.ensures.buffer, c.put_moment.ensures.at))

pub returns-in-Floor-clause-read_back : goal.returns-in-Floor-clause-read_back
returns-in-Floor-clause-read_back g c =
    let e : Floor c.in-Floor.buffer c.in-Floor.at ≡ c.args.change.now = cc in
    read_back c.args.change.now (subst IsLawfulChange e (c.put_moment-in-Floor.ensures.buffer, c.put_moment-in-Floor.ensures.at))

pub returns-in-AccountFloor-clause-read_back : goal.returns-in-AccountFloor-clause-read_back
returns-in-AccountFloor-clause-read_back g c =
    let e : AccountFloor c.in-AccountFloor.account c.in-AccountFloor.at ≡ c.args.change.now = cc in
    read_back c.args.change.now (subst IsLawfulChange e (c.put_account_floor.ensures.account, c.put_account_floor.ensures.at))
