use Rattle.sealing.proofs.line.Line.lawful.Goals as goal

pub returns : goal.returns
returns g c = record {
  least = g.met.C.WideCipher.least c.args.self.now.cipher;
  most = g.met.C.WideCipher.most c.args.self.now.cipher;
  encsize = g.met.C.WideCipher.encsize c.args.self.now.cipher;
  decsize = g.met.C.WideCipher.decsize c.args.self.now.cipher;
  decbytes = g.met.C.WideCipher.decbytes c.args.self.now.cipher;
  undone = g.met.C.WideCipher.undone c.args.self.now.cipher;
  redone = g.met.C.WideCipher.redone c.args.self.now.cipher;
  tagsize = g.met.J.KeyedHash.size c.args.self.now.hash;
  tagbytes = g.met.J.KeyedHash.bytes c.args.self.now.hash;
  named = c.args.self.now.name.eight;
  namebytes = c.args.self.now.name.known;
}
