use Rattle.irc_time.proofs.laws.what_is_written_is_read_back.Goals as goal

pub returns : goal.returns
returns c = λ bytes t is. record { fields = is.fields; exists = is.exists; spelled = is.spelled; moment = is.moment }
