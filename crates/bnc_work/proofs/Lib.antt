mod AgreementLemmas
mod OrderLemmas
