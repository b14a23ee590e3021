-- The proofs of the laws, each under its law's own name.
use Rattle.qasm_grammar.specs.Laws.{Read, Stopping, SomeSentence, OneSentence}
use Rattle.qasm_grammar.proofs.Allowed.{reads_to, stops_at}
use Rattle.qasm_grammar.proofs.Making.{some_sentence}
use Rattle.qasm_grammar.proofs.OneSentence.{sentence_one}

pub law_read : Read
law_read = reads_to

pub law_stop : Stopping
law_stop = stops_at

pub law_some_sentence : SomeSentence
law_some_sentence = some_sentence

pub law_one_sentence : OneSentence
law_one_sentence = sentence_one
