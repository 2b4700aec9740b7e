mod PassLemmas
