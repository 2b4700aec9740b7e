use Rattle.std.proofs.Common.{◌∷◌, []}
use Rattle.irc_time.proofs.parts.text_of.Goals as goal

pub returns : goal.returns
returns c = λ i. c.digit.ensures i ∷ c.digit-2.ensures i ∷ c.digit-3.ensures i ∷ c.digit-4.ensures i ∷ 45 ∷ c.digit-5.ensures i ∷ c.digit-6.ensures i ∷ 45
    ∷ c.digit-7.ensures i ∷ c.digit-8.ensures i ∷ 84 ∷ c.digit-9.ensures i ∷ c.digit-10.ensures i ∷ 58 ∷ c.digit-11.ensures i ∷ c.digit-12.ensures i ∷ 58
    ∷ c.digit-13.ensures i ∷ c.digit-14.ensures i ∷ 46 ∷ c.digit-15.ensures i ∷ c.digit-16.ensures i ∷ c.digit-17.ensures i ∷ 90 ∷ []
