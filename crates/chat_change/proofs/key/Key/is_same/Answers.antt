use Rattle.std.proofs.Common.{rules, ◌≡◌, ◌↔◌, IsTrue}
use Rattle.chat_change.specs.Key.{value_of}
use Rattle.chat_change.proofs.KeyLemmas.{same_key_from}
use Rattle.chat_change.proofs.key.Key.is_same.Goals as goal

pub returns-in-Floor-other-clause-test : goal.returns-in-Floor-other-clause-test
returns-in-Floor-other-clause-test c =
    let same : IsTrue c.is_same.result ↔ (value_of c.args.self.now ≡ value_of c.args.other.now) = search rules in
    same_key_from c.is_same.result (value_of c.args.self.now) (value_of c.args.other.now) same

pub returns-in-Marker-other-clause-test : goal.returns-in-Marker-other-clause-test
returns-in-Marker-other-clause-test c =
    let b = c.is_same-in-Marker-other.result in
    let same : IsTrue b ↔ (value_of c.args.self.now ≡ value_of c.args.other.now) = search rules in
    same_key_from b (value_of c.args.self.now) (value_of c.args.other.now) same

pub returns-then-is_same-clause-test : goal.returns-then-is_same-clause-test
returns-then-is_same-clause-test c =
    let b = c.is_same-then-is_same.result in
    let same : IsTrue b ↔ (value_of c.args.self.now ≡ value_of c.args.other.now) = search rules in
    same_key_from b (value_of c.args.self.now) (value_of c.args.other.now) same

pub returns-else-is_same-clause-test : goal.returns-else-is_same-clause-test
returns-else-is_same-clause-test c =
    let b = c.is_same-in-Message-other.result in
    let same : IsTrue b ↔ (value_of c.args.self.now ≡ value_of c.args.other.now) = search rules in
    same_key_from b (value_of c.args.self.now) (value_of c.args.other.now) same
